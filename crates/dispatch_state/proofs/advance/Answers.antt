-- `advance`: where neither 20 nor 21 is told, the state of the block after.
use mathlib.Core.Path.{ap, ◌∙◌}
use borrow.Author.Rules.{rules}
use Rattle.paper.specs.Outcome.{answer}
use Rattle.dispatch_state.proofs.Deciding.{next_is}
use Rattle.dispatch_state.proofs.advance.Goals as goal

pub returns : goal.returns
returns c = ap answer c.state_at.ensures ∙ next_is _ _ c.args.s c.is_own.ensures (search rules) (search rules)

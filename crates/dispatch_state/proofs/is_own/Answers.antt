-- `is_own`: against the rows of the block.
use mathlib.Core.Path.{refl, ◌∙◌}
use Rattle.dispatch_state.proofs.SameRows.{rows_same}
use Rattle.dispatch_state.proofs.is_own.Goals as goal

pub returns : goal.returns
returns c = rw (← c.rows_at.ensures) (c.eq.ensures ∙ rows_same _ (λ x y. refl) _ _)

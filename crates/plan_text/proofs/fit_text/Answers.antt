-- `fit_text`: the text is made apart; of a buffer with room for it, it then covers the front.
use mathlib.Core.Path.{sym, ap, ◌∙◌}
use lib.ListN.{length}
use Rattle.laws.specs.Lists.{over}
use Rattle.paper.specs.Text.{plan_text}
use Rattle.paper.proofs.Outcomes.{writes_refused, writes_length}
use Rattle.plan_text.proofs.Fitting.{fitted_short, fitted-room, front_is}
use borrow.Author.Rules.{rules}
use Rattle.plan_text.proofs.fit_text.Goals as goal

pub returns-then-out-n : goal.returns-then-out-n
returns-then-out-n c =
    let put = c.print_text-n in
    let short = fitted_short _ put.result (plan_text c.args.accepted.now) put.ensures.puts.0 (search rules) in
    writes_refused _ c.args.out.now short

pub returns : goal.returns
returns c =
    let l = c.args.out.now in
    let w = plan_text c.args.accepted.now in
    let put = c.print_text-n in
    let puts = put.ensures.puts in
    let room = fitted-room (length l) put.result w puts.0 (search rules) in
    let front = front_is _ w _ _ puts.0 puts.1 in
    writes_length w l _ room (sym puts.0) (c.put_bytes.ensures ∙ ap (λ v. over v l) front)

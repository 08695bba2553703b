-- `is_undivided`: there is a period that T does not divide where the search for one ends before the last duty.
use Rattle.std.proofs.Common.{not, rules}
use Rattle.laws.specs.Divisor.{divides}
use Rattle.laws.proofs.Search.{seek_none}
use Rattle.paper.specs.Duties.{duty_at}
use Rattle.judge_lowest.proofs.is_undivided.Goals as goal

pub returns : goal.returns
returns c =
    let t = c.args.table.now in
    let none = seek_none _ 0 in
    let found = c.lowest.ensures (λ i. not (divides t.ticks (duty_at t.duties i).period)) none.clear (λ k b l h looked. search rules) in
    rw (found, c.duties-duties.ensures.told)

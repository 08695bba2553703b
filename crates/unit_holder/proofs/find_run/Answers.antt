-- `find_run`: every run passed lacks the unit, so the loop stops at the first that has it, or at the end.
use mathlib.Core.Path.{sym, ap, ◌∙◌}
use native.Mathlib.Omega.{arith}
use Rattle.laws.proofs.Search.{seek_hit, seek_miss}
use Rattle.paper.specs.declared.Run.{Run}
use Rattle.paper.specs.Words.{covers}
use Rattle.unit_holder.proofs.find_run.Goals as goal

pub returns-then-idle-k : goal.returns-then-idle-k
returns-then-idle-k c = omega (arith, seek_miss c.loop-k.invariant.1 (omega arith))

pub returns-then-run_covers : goal.returns-then-run_covers
returns-then-run_covers c =
    let read = ap (λ (x : Run). covers x c.args.row c.args.unit) (sym c.run.ensures.told) in
    let has = read ∙ sym c.run_covers.ensures ∙ c.if-run_covers.true in
    seek_hit c.loop-k.invariant.1 (omega arith) has

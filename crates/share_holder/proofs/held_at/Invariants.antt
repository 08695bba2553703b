use Prim.Native.Nat.{◌+◌, ◌-◌, ◌≤◌}
use mathlib.Core.Path.{◌≡◌}
use lib.ListN.{length}
use Rattle.paper.specs.Limits.{most_duties}
use Rattle.plan_laws.proofs.Line.{on_line}
use Rattle.share_holder.proofs.held_at.Given as goal

abbrev pub invariant-loop-i : goal.invariant-loop-i
invariant-loop-i l =
    let i = l.i-iterator.a.start in
    let rest = l.i-iterator.b.rest.now in
    (l.left ≤ l.place) × (i + length rest ≤ most_duties) × (on_line rest i (l.place - l.left) l.place ≡ on_line l.units 0 0 l.place)

use Prim.Native.Nat.{◌-◌, ◌≤◌}
use lib.ListN.{length}
use Rattle.paper.specs.Limits.{most_duties}
use Rattle.plan_input.proofs.LinesRead.{LinesRead}
use Rattle.plan_input.proofs.read_duties.Given as goal

abbrev pub invariant-loop-at : goal.invariant-loop-at
invariant-loop-at l = (l.i ≤ most_duties) × (l.at ≤ length l.b) × LinesRead l.b l.services l.periods l.i l.at

abbrev pub decreases-loop-at : goal.decreases-loop-at
decreases-loop-at l = length l.b - l.at

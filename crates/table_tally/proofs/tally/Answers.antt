-- `tally`: the lists tell what the runs passed so far come to, from the last run on.
use mathlib.Core.Path.{refl}
use Prim.Native.Nat.{◌≤◌}
use native.Mathlib.Omega.{arith}
use lib.ListN.{length}
use Rattle.paper.specs.Limits.{most_ticks}
use Rattle.table_tally.proofs.Edged.{edges_none, edges_back}
use Rattle.table_tally.proofs.Tallied.{units_none, units_back, units_bound, units_ranged}
use Rattle.table_tally.proofs.tally.Goals as goal

pub loop-k-init : goal.loop-k-init
loop-k-init c =
    let runs = c.args.table.now.runs in
    record { units = units_none runs _ (omega arith); edges = rw c.new.ensures (edges_none runs _ _ (omega arith)) }

-- a sum of units stays small
pub overflow_add-units : goal.overflow_add-units
overflow_add-units c =
    let ranged = c.reading-reading.ensures.ranged in
    let few = units_bound most_ticks c.args.table.now.runs c.loop-k.k c.run-x.result.duty (units_ranged ranged) (omega (arith, ranged)) in
    omega (arith, rw (← c.loop-k.invariant.units) at few, ranged, c.run-x.ensures.ranged)

pub loop-k-preserved : goal.loop-k-preserved
loop-k-preserved c =
    let runs = c.args.table.now.runs in
    let loop = c.loop-k in
    let read = c.run-x.ensures in
    let some = c.loop-k-test.true in
    let few : loop.k ≤ length runs = omega arith in
    let ranged = c.reading-reading.ensures.ranged in
    record {
      units = units_back runs c.run-x.result some few read.told (omega (arith, ranged, read.ranged)) loop.invariant.units refl;
      edges = edges_back runs _ c.run-x.result some few read.told (omega (arith, ranged, read.ranged)) loop.invariant.edges
          c.edge.ensures (rw c.reading-reading.ensures.fields.0 at c.edge-in-loop-k.ensures);
    }

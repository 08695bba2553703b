-- The rows that were passed end with a chain, and so many of them carry.
use Prim.Native.Nat.{◌-◌, ◌≤◌}
use mathlib.Core.Path.{◌≡◌}
use Rattle.paper.specs.Rotation.{first_of}
use Rattle.row_edges.specs.Links.{link_by}
use Rattle.carried_over.specs.Carried.{carried_of}
use Rattle.carried_over.proofs.carried.Given as goal

abbrev pub invariant-loop-first : goal.invariant-loop-first
invariant-loop-first g l =
    let goes_on = g.E.HeldEdges.goes_on l.edges in
    (l.first ≤ l.engines) × (first_of (link_by goes_on) l.first ≡ l.first) × (l.count ≡ carried_of goes_on l.first) × (l.count ≤ l.first)

abbrev pub decreases-loop-first : goal.decreases-loop-first
decreases-loop-first g l = l.engines - l.first

use Prim.Native.Nat.{◌≤◌}
use mathlib.Core.Path.{◌≡◌}
use Rattle.paper.specs.Limits.{most_engines}
use Rattle.paper.specs.Rotation.{first_of}
use Rattle.row_edges.specs.Links.{link_by}
use Rattle.rotation.proofs.chain_first.Given as goal

abbrev pub invariant-loop-r : goal.invariant-loop-r
invariant-loop-r g l =
    let link = link_by (g.E.HeldEdges.goes_on l.edges) in
    (l.r ≤ l.initial.r) × (l.initial.r ≤ most_engines) × (first_of link l.r ≡ first_of link l.initial.r)

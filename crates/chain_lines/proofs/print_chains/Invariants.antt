use Prim.Native.Nat.{◌-◌}
use Rattle.row_edges.specs.Links.{link_of}
use Rattle.chain_lines.proofs.ChainLines.{Chained}
use Rattle.chain_lines.proofs.print_chains.Given as goal

abbrev pub invariant-loop-first : goal.invariant-loop-first
invariant-loop-first l = Chained (link_of l.edges.rows) l.engines l.initial.out l.out l.at l.first

abbrev pub decreases-loop-first : goal.decreases-loop-first
decreases-loop-first l = l.engines - l.first

use mathlib.Core.Path.{◌≡◌}
use Rattle.paper.specs.Answers.{rows_at}
use Rattle.row_edges.specs.Links.{link_of}
use Rattle.dispatch_rows.specs.AtHand.{AtHand}
use Rattle.dispatch_rows.proofs.rows_at.Given as goal

abbrev pub invariant-loop-i : goal.invariant-loop-i
invariant-loop-i l =
    AtHand (link_of l.edges.rows) l.block l.i l.turned × (l.rows ≡ rows_at (link_of l.edges.rows) l.i l.block)

-- What a judged table gives to those who ask on: a question, a dispatcher, a count, a plan's text.
use Rattle.std.specs.Prelude.{◌≡◌, List}
use Rattle.paper.specs.Limits.{small}
use Rattle.paper.specs.Words.{Table}
use Rattle.paper.specs.Statements.{Ranged, Meets}
use Rattle.row_edges.specs.declared.RowEdges.{RowEdges}
use Rattle.table_tally.specs.Tally.{edges_of}

-- it is in its ranges and meets the rules, and these are the edges of its rows
pub record Ready (t : Table) (edges : List RowEdges) : Type 0 where
  pub ranged : Ranged small t
  pub meets : Meets t
  pub edges_are : edges ≡ edges_of t

-- What a table's bytes in good form give to those who read on.
use Rattle.std.specs.Prelude.{ℕ, ◌+◌, ◌≡◌, List, length}
use Rattle.paper.specs.declared.Reading.{Reading}
use Rattle.record_read.specs.declared.Head.{Head}
use Rattle.paper.specs.Outcome.{answer}
use Rattle.paper.specs.Limits.{small, end_length}
use Rattle.paper.specs.Bytes.{ticks_in, engines_in, duties_in, run_place, table_in, read_table}
use Rattle.paper.specs.Statements.{Ranged}
use Rattle.paper.specs.Words.{Table}

-- the fields of the head are these
abbrev pub IsHead : List ℕ → Head → Type 0
IsHead b h = (h.block_length ≡ ticks_in b) × (h.engines ≡ engines_in b) × (h.duties ≡ duties_in small b)

-- the table that a reading tells in its bytes
abbrev pub table_of : List ℕ → Reading → Table
table_of b rd = table_in small b rd.duties rd.runs

-- what a good form with the reading rd gives: the bytes read as that table, which is in its ranges, and no byte is missing or left over
pub record Formed (b : List ℕ) (rd : Reading) : Type 0 where
  pub ticks : rd.block_length ≡ ticks_in b
  pub engines : rd.engines ≡ engines_in b
  pub parsed : read_table b ≡ answer (table_of b rd)
  pub ranged : Ranged small (table_of b rd)
  pub long : run_place small rd.duties rd.runs + end_length ≡ length b

-- The lists of a table's runs.
use Rattle.std.specs.Prelude.{ℕ, length}
use Rattle.laws.proofs.SortedLists.{Recent, Sorted}
use Rattle.paper.specs.Words.{Table}
use Rattle.table_laws.proofs.SortedRuns.{kept}
use Rattle.judge_lists.specs.declared.Lists.{Lists}

-- the first k runs of a table stand in the lists of their duties, and the last one of each duty is noted
pub record Listed (t : Table) (k : ℕ) (lists : Lists) : Type 0 where
  pub recent : Recent (kept t.runs) (length t.duties) k lists.last
  pub sorted : Sorted (kept t.runs) (length t.duties) k lists.pointers

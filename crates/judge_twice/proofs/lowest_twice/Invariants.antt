use Rattle.std.proofs.Common.{length}
use Rattle.laws.proofs.Search.{Seeking}
use Rattle.table_laws.proofs.SortedRuns.{twice_at}
use Rattle.judge_lists.specs.Listed.{Listed}
use Rattle.judge_twice.proofs.lowest_twice.Given as goal

abbrev pub invariant-loop-k : goal.invariant-loop-k
invariant-loop-k l = record {
  search : Seeking (twice_at l.table.runs) (length l.table.runs) l.k;
  listed : Listed l.table l.k l.lists;
}

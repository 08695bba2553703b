-- `Lists::new`: all are empty, and the arrays are long enough for any table in range.
use Rattle.std.proofs.Common.{arith, ◌+◌}
use Rattle.laws.proofs.SortedLists.{recent_none, sorted_none, blank_zeros}
use Rattle.paper.specs.Limits.{most_duties, most_runs}
use Rattle.judge_lists.proofs.Lists.new.Goals as goal

pub returns : goal.returns
returns c =
    λ t ranged.
    record {
      recent = recent_none _ _ _ (blank_zeros _ most_duties ranged.duties_most);
      sorted = sorted_none _ _ _ (blank_zeros _ (most_runs + most_duties) (omega (arith, ranged.runs_most, ranged.duties_most)));
    }

use Rattle.std.proofs.Common.{◌+◌, ◌-◌}
use Rattle.laws.proofs.SortedLists.{Below, rank}
use Rattle.paper.specs.Words.{run_at}
use Rattle.table_laws.proofs.SortedRuns.{kept}
use Rattle.judge_lists.proofs.Lists.spot_of.Given as goal

abbrev pub invariant-loop-spot : goal.invariant-loop-spot
invariant-loop-spot l = Below (kept l.table.runs) l.k l.spot

-- with every step the spot's first unit grows, and it stays below run k's
abbrev pub decreases-loop-spot : goal.decreases-loop-spot
decreases-loop-spot l = (run_at l.table.runs l.k).first + 1 - rank (kept l.table.runs) l.spot

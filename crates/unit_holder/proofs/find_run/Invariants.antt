use mathlib.Core.Path.{◌≡◌}
use lib.ListN.{length}
use Prim.Native.Nat.{◌-◌}
use Rattle.laws.proofs.Search.{Seeking}
use Rattle.paper.specs.Words.{covers, run_at}
use Rattle.unit_holder.proofs.find_run.Given as goal

-- the runs passed do not have the unit
abbrev pub invariant-loop-k : goal.invariant-loop-k
invariant-loop-k l =
    (l.idle ≡ length l.table.runs) × Seeking (λ j. covers (run_at l.table.runs j) l.row l.unit) (length l.table.runs) l.k

abbrev pub decreases-loop-k : goal.decreases-loop-k
decreases-loop-k l = length l.table.runs - l.k

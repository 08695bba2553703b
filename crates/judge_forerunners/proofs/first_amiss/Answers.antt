-- `first_amiss`: the search for any of the three ways, from run 1 on.
use Rattle.std.proofs.Common.{rules}
use Rattle.laws.proofs.Search.{beside, compare_none}
use Rattle.table_laws.proofs.Forerunners.{wrongly}
use Rattle.judge_forerunners.proofs.Beside.{told}
use Rattle.judge_forerunners.proofs.first_amiss.Goals as goal

pub returns : goal.returns
returns c =
    let wrong = wrongly c.args.table.now.runs in
    let none = compare_none wrong in
    rw c.runs-runs.ensures.told at (c.lowest.ensures (beside wrong) none.clear (λ k b l h looked. told none l (search rules)))

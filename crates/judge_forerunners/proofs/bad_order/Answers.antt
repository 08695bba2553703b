-- `bad_order`: 13 is said of a run and its forerunner.
use Rattle.std.proofs.Common.{rules, sym, ◌∙◌}
use Rattle.laws.proofs.Search.{beside, compare_less}
use Rattle.table_laws.proofs.Forerunners.{misplaced, wrongly, not_misplaced, lowest-misplaced}
use Rattle.judge_forerunners.proofs.Beside.{told}
use Rattle.judge_forerunners.proofs.bad_order.Goals as goal

pub returns : goal.returns
returns c =
    let xs = c.args.table.now.runs in
    let none = compare_less (misplaced xs) (wrongly xs) (not_misplaced xs) c.requires in
    let found = c.lowest.ensures (beside (misplaced xs)) none.clear (λ k b l h looked. told none l (search rules)) in
    rw c.runs-runs.ensures.told at found ∙ sym (lowest-misplaced xs)

-- `lowest_overlap`: where 13 is met, the forerunner is enough for 14 (`lowest-overlapping`).
use Rattle.std.proofs.Common.{rules, sym, ◌∙◌}
use Rattle.laws.proofs.Search.{beside, compare_less}
use Rattle.table_laws.proofs.Forerunners.{overlapping, wrongly, not_overlapping, found_ordered, lowest-overlapping}
use Rattle.judge_forerunners.proofs.Beside.{told}
use Rattle.judge_forerunners.proofs.lowest_overlap.Goals as goal

pub returns : goal.returns
returns c =
    let t = c.args.table.now in
    let none = compare_less (overlapping t.runs) (wrongly t.runs) (not_overlapping t.runs) c.requires.0 in
    let found = c.lowest.ensures (beside (overlapping t.runs)) none.clear (λ k b l h looked. told none l (search rules)) in
    rw c.runs-runs.ensures.told at found ∙ sym (lowest-overlapping t.runs (found_ordered t c.requires.1))

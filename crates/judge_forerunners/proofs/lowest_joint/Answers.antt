-- `lowest_joint`: where 13 and 14 are met, the forerunner is enough for 15 (`lowest-joining`).
use Rattle.std.proofs.Common.{rules, sym, ◌∙◌}
use Rattle.laws.proofs.Search.{beside, compare_less}
use Rattle.table_laws.proofs.Forerunners.{joining, wrongly, not_joining, found_ordered, found_apart, lowest-joining}
use Rattle.judge_forerunners.proofs.Beside.{told}
use Rattle.judge_forerunners.proofs.lowest_joint.Goals as goal

pub returns : goal.returns
returns c =
    let t = c.args.table.now in
    let none = compare_less (joining t.runs) (wrongly t.runs) (not_joining t.runs) c.requires.0 in
    let found = c.lowest.ensures (beside (joining t.runs)) none.clear (λ k b l h looked. told none l (search rules)) in
    rw c.runs-runs.ensures.told at found
    ∙ sym (lowest-joining t.runs (found_ordered t c.requires.1) (found_apart t.runs c.requires.2))

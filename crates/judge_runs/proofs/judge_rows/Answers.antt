-- `judge_rows`: up to the lowest run that stands wrong to its forerunner none of the three rules finds one, and where there is no such
-- run, none at all (`right_rows`).
use Rattle.std.proofs.Common.{length, arith}
use Rattle.laws.proofs.Search.{beside, first_clear, compare_found}
use Rattle.table_laws.proofs.Forerunners.{wrongly, right_rows}
use Rattle.judge_runs.proofs.Halves.{rows_clear}
use Rattle.judge_runs.proofs.judge_rows.Goals as goal

pub search_rows-requires : goal.search_rows-requires
search_rows-requires c =
    let told = c.first_amiss-amiss.ensures in
    let some = rw (told, c.runs.ensures.told) at c.if-amiss-runs.true in
    rw told (compare_found _ _ some)

pub returns : goal.returns
returns c =
    let t = c.args.table.now in
    let end = rw (c.first_amiss-amiss.ensures, c.runs.ensures.told) at c.if-amiss-runs.false in
    let none = right_rows t.runs (λ k l. first_clear (beside (wrongly t.runs)) (length t.runs) k (omega (arith, end))) in
    rw (rows_clear t none.0 none.1 none.2)

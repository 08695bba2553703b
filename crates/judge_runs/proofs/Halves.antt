-- The rules of the runs are those of the rows (13 to 15) and then those of the duties (16 and 17).
-- Assumes nothing.
use mathlib.Core.Path.{◌≡◌}
use lib.Dec.{ltb}
use lib.ListN.{length}
use borrow.Author.Tests.{le-ltb}
use native.Mathlib.Omega.{arith}
use Rattle.laws.proofs.Cases.{by_cases}
use Rattle.paper.specs.Words.{Table}
use Rattle.paper.specs.Outcome.{answer, and_then}
use Rattle.paper.specs.Rules.{overlaps, joins, lowest, bad_order, judge_runs}
use Rattle.judge_runs.specs.Halves.{judge_rows, judge_service}

pub halves : (t : Table) → judge_runs t ≡ and_then (judge_rows t) judge_service
unfolding judge_runs
halves t =
    by_cases (ltb (bad_order t) (length t.runs)) (λ p. rw p) (λ p. rw p
    (by_cases (ltb (lowest overlaps t.runs) (length t.runs)) (λ q. rw q) (λ q. rw q
    (by_cases (ltb (lowest joins t.runs) (length t.runs)) (λ r. rw r) (λ r. rw r)))))

-- no place is found by any of the three
pub rows_clear : (t : Table) → bad_order t ≡ length t.runs → lowest overlaps t.runs ≡ length t.runs
    → lowest joins t.runs ≡ length t.runs → judge_rows t ≡ answer t
rows_clear t p q r =
    let n = length t.runs in
    rw (
      le-ltb (bad_order t) n (omega (arith, p)),
      le-ltb (lowest overlaps t.runs) n (omega (arith, q)),
      le-ltb (lowest joins t.runs) n (omega (arith, r)),
    )

-- Demand 2 for every table: each job of each duty gets its service, and no duty runs on two engines in one tick.
-- In every block the engines' rows are all rows, each once, so at a tick a duty runs on as many engines as it has runs on the tick's unit.
-- These are on one row, so it is one engine; over a block it is the units of the duty's runs, its slice N; and a job is D/T whole blocks,
-- with D/T · N = C.
-- Of the block length only that it divides the period is used.
-- Assumes nothing.
use Prim.Native.Nat.{ℕ, ◌+◌, ◌*◌, ◌/◌, ◌%◌, ◌≤◌, ◌<◌, ◌∣◌}
use mathlib.Core.Path.{◌≡◌, sym, ap, ◌∙◌}
use native.Mathlib.Nat.{mul-div_cancel', div-mul_cancel, mul_assoc, mul_comm, eq_of_mul-eq-mul_left}
use native.Mathlib.Omega.{arith}
use lib.Arith.{digits_mod}
use lib.Dec.{eqb}
use lib.ListN.{length}
use borrow.Author.Tests.{eqb-true, eqb-false}
use Rattle.laws.specs.Choice.{one_if}
use Rattle.laws.specs.Sum.{sum_to}
use Rattle.laws.proofs.Cases.{by_cases}
use Rattle.laws.proofs.Sum.{sum_ext, sum_const, sum_blocks}
use Rattle.paper.specs.declared.Duty.{Duty}
use Rattle.std.specs.Prelude.{Some}
use Rattle.paper.specs.Duties.{engine, job_start, duty_at, same}
use Rattle.paper.specs.Words.{row, slice, Table, run_at, held_in}
use Rattle.paper.specs.Rotation.{link, row_at}
use Rattle.paper.specs.Walk.{walk}
use Rattle.paper.specs.Schedule.{given, served}
use Rattle.paper.specs.Limits.{Width}
use Rattle.paper.specs.Rules.{units_of}
use Rattle.paper.specs.Statements.{Ranged, Meets}
use Rattle.paper.proofs.Rotation.{row_sum, row_one}
use Rattle.table_laws.proofs.Accepted.{ticks_divides}
use Rattle.paper.proofs.Capacity.{once_when}
use Rattle.paper.proofs.Holding.{RowsApart}
use Rattle.paper.proofs.Links.{Closed, closed, rows_end}
use Rattle.walk_laws.proofs.Units.{RowsBelow, Inside, DutiesApart, on_unit, rows_unit, units_block, one_row}

-- the runs lie in the rows and the units of a block and are apart: what service and exclusion need of a table
pub record Serving (t : Table) : Type 0 where
  pub closed : Closed t
  pub rows_below : RowsBelow t.engines t.runs
  pub inside : Inside t.ticks t.runs
  pub apart_in_row : RowsApart t.runs
  pub apart_of_duty : DutiesApart t.runs

-- 14 and 16 together: the runs of a duty are apart, on one row or on two
pub meets_serving : {w : Width} {t : Table} → Ranged w t → Meets t → Serving t
meets_serving {w} {t} r m =
    record {
      closed = closed w t r;
      rows_below = λ k h. (r.run_ranged_lem k h).row_below;
      inside = λ k h. (r.run_ranged_lem k h).inside;
      apart_in_row = m.apart_in_row;
      apart_of_duty = λ j k l h d.
          by_cases (eqb (run_at t.runs j).row.0 (run_at t.runs k).row.0)
          (λ e. m.apart_in_row j k l h (eqb-true (run_at t.runs j).row.0 (run_at t.runs k).row.0 e))
          (λ e. m.apart_of_duty j k l h d (eqb-false (run_at t.runs j).row.0 (run_at t.runs k).row.0 e));
    }

-- on a unit of any block a duty runs on as many engines as it has runs there
pub engines_unit : (t : Table) → Serving t → (i b u : ℕ) → sum_to t.engines
    (λ e. one_if (same (held_in t.runs (row_at (link t) b (engine e)) u) (Some i))) ≡ on_unit t.runs i u
engines_unit t l i b u =
    row_sum (link t) t.engines (rows_end t l.closed) b (λ r. one_if (same (held_in t.runs (row r) u) (Some i)))
    ∙ rows_unit t.engines t.runs l.apart_in_row l.rows_below i u

-- the same of a tick
pub given_unit : (t : Table) → Serving t → (i k : ℕ) → given t.engines (walk t) i k ≡ on_unit t.runs i (k % t.ticks)
unfolding given walk
given_unit t l i k = engines_unit t l i (k / t.ticks) (k % t.ticks)

-- exclusion: two engines that run one duty in one tick are one engine
pub one_engine : (t : Table) → Serving t → (i k e d : ℕ) → walk t (engine e) k ≡ Some i → walk t (engine d) k ≡ Some i → e ≡ d
unfolding walk
one_engine t l i k e d p q =
    let b = k / t.ticks in
    row_one (link t) b e d
    (one_row t.runs l.apart_of_duty (row_at (link t) b (engine e)) (row_at (link t) b (engine d)) (k % t.ticks) i p q)

-- .. counted: a duty runs on at most one engine in a tick
pub given_once : (t : Table) → Serving t → (i k : ℕ) → given t.engines (walk t) i k ≤ 1
given_once t l i k = (once_when t.engines (walk t) i k).1 (λ e d a b. one_engine t l i k e d)

-- service over n whole blocks from block b on: n times the units of the duty's runs
pub served-blocks : (t : Table) → Serving t → (i b n : ℕ) → served t.engines (walk t) i (b * t.ticks) (n * t.ticks)
    ≡ n * units_of t.runs i
unfolding served
served-blocks t l i b n =
    sum_blocks n T (λ j. given t.engines (walk t) i (b * T + j))
    ∙ sum_ext n (λ c. sum_to T (λ u. given t.engines (walk t) i (b * T + (c * T + u)))) (λ c. units_of t.runs i) (λ c h. block c)
    ∙ sum_const n (units_of t.runs i)
  where
    T : ℕ
    T = t.ticks

    unit : (c u : ℕ) → u < T → given t.engines (walk t) i (b * T + (c * T + u)) ≡ on_unit t.runs i u
    unit c u h =
        let e : b * T + (c * T + u) ≡ (b + c) * T + u = omega arith in
        rw e (given_unit t l i ((b + c) * T + u) ∙ ap (on_unit t.runs i) (digits_mod (b + c) h))

    block : (c : ℕ) → sum_to T (λ u. given t.engines (walk t) i (b * T + (c * T + u))) ≡ units_of t.runs i
    block c = sum_ext T (λ u. given t.engines (walk t) i (b * T + (c * T + u))) (on_unit t.runs i) (λ u h. unit c u h)
        ∙ units_block T t.runs l.inside i

-- ---- jobs

-- D/T blocks of a slice make the service: with D = n·T and D·N = T·C, n·N = C
slices_service : (t : ℕ) (x : Duty) → 0 < t → t ∣ x.period → x.period ∣ t * x.service → x.period / t * slice t x ≡ x.service
unfolding slice
slices_service t x h d w =
    let n = x.period / t in
    let s = t * x.service / x.period in
    eq_of_mul-eq-mul_left t h (n * s) x.service
    (sym (mul_assoc t n s) ∙ ap (λ (y : ℕ). y * s) (mul_comm t n ∙ div-mul_cancel t d) ∙ mul-div_cancel' x.period w)

-- a job is D/T whole blocks; it gets the service where the duty's runs add up to the slice
pub job_blocks : (t : Table) → Serving t → (i : ℕ) (x : Duty) → t.ticks ∣ x.period → x.period ∣ t.ticks * x.service
    → units_of t.runs i ≡ slice t.ticks x → (q : ℕ) → served t.engines (walk t) i (job_start x q) x.period ≡ x.service
job_blocks t l i x d w s q =
    let n = x.period / t.ticks in
    let e = div-mul_cancel t.ticks d in
    let start : q * x.period ≡ q * n * t.ticks = ap (λ (y : ℕ). q * y) (sym e) ∙ sym (mul_assoc q n t.ticks) in
    ap (λ (k : ℕ). served t.engines (walk t) i k x.period) start
    ∙ ap (λ (y : ℕ). served t.engines (walk t) i (q * n * t.ticks) y) (sym e)
    ∙ served-blocks t l i (q * n) n
    ∙ ap (λ (y : ℕ). n * y) s
    ∙ slices_service t.ticks x l.closed.some_tick d w

-- ---- accepted tables

-- service: in every accepted table each job of each duty gets the duty's service
pub job_served : {w : Width} (t : Table) → Ranged w t → Meets t → (i : ℕ) → i < length t.duties → (q : ℕ)
    → served t.engines (walk t) i (job_start (duty_at t.duties i) q) (duty_at t.duties i).period ≡ (duty_at t.duties i).service
job_served t r m i h q =
    job_blocks t (meets_serving r m) i (duty_at t.duties i) (ticks_divides t m i h) (m.slices_whole i h) (m.sums_right i h) q

-- exclusion: in every accepted table, at each tick, each duty runs on one engine at most
pub never_twice : {w : Width} (t : Table) → Ranged w t → Meets t → (i k : ℕ) → given t.engines (walk t) i k ≤ 1
never_twice t r m i k = given_once t (meets_serving r m) i k

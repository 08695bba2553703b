-- A table is accepted exactly when it meets the plain statements of rules 11 to 17: the judge goes down the rules, so its answer is the
-- table only if no rule's test finds a place, and then every rule's statement holds; and the converse.
-- Assumes nothing.
use Prim.Native.Nat.{ℕ, ◌≤◌, ◌<◌, ◌∣◌}
use mathlib.Core.Path.{◌≡◌, sym, ap, ◌∙◌}
use mathlib.Core.Bool.{true, false}
use mathlib.Core.List.{List, map}
use mathlib.Core.Logic.{◌↔◌}
use native.Mathlib.Omega.{arith}
use lib.Dec.{ltb}
use lib.ListN.{length, length-map, get_or-map}
use native.Mathlib.Nat.{dvd_refl}
use Rattle.laws.proofs.Search.{none_clear, clear_none}
use Rattle.laws.proofs.Decides.{eqb_decides, none_found}
use Rattle.laws.proofs.Divisor.{gcd_of-common}
use Rattle.paper.specs.declared.Duty.{Duty}
use Rattle.paper.specs.Duties.{duty, duty_at}
use Rattle.paper.specs.Words.{slice, block_length_of, undivided, run_at, Table}
use Rattle.paper.specs.Outcome.{refused, answer}
use Rattle.paper.specs.Limits.{Width, small}
use Rattle.paper.specs.Bytes.{parse, read_table}
use Rattle.paper.specs.Builder.{bad_slice}
use Rattle.paper.specs.Rules.{fault, unordered, overlaps, joins, twice, lowest, units_of, bad_sum, bad_order, judge_runs, judge_duties}
use Rattle.paper.specs.Rules.{judge_table, accepted}
use Rattle.paper.specs.Statements.{Ranged, CommonDivisor, Meets}
use Rattle.table_laws.proofs.Rules.{InOrder, ordered_clear, clear_ordered, lowest_none, none_lowest, overlaps_apart, apart_overlaps}
use Rattle.table_laws.proofs.Rules.{joins_any, not_joins, twice_apart, apart_twice, divided_when, whole_decides, Wholes}
use Rattle.paper.proofs.Outcomes.{answer_one, then_answer, past}

-- ---- the judge's way down the rules

-- no rule's test finds a place
pub record Passed (t : Table) : Type 0 where
  pub block_length : undivided t.ticks t.duties ≡ false
  pub slices : ltb (bad_slice t.ticks t.duties) (length t.duties) ≡ false
  pub order : ltb (bad_order t) (length t.runs) ≡ false
  pub overlap : ltb (lowest overlaps t.runs) (length t.runs) ≡ false
  pub joint : ltb (lowest joins t.runs) (length t.runs) ≡ false
  pub twofold : ltb (lowest twice t.runs) (length t.runs) ≡ false
  pub sums : ltb (bad_sum t) (length t.duties) ≡ false

judge_runs_passed : (t s : Table) → undivided t.ticks t.duties ≡ false
    → ltb (bad_slice t.ticks t.duties) (length t.duties) ≡ false → judge_runs t ≡ answer s → Passed t × (s ≡ t)
unfolding judge_runs
judge_runs_passed t s h11 h12 h =
    let h13 = past (ltb (bad_order t) (length t.runs)) 13 (bad_order t) _ s h in
    let h14 = past (ltb (lowest overlaps t.runs) (length t.runs)) 14 (lowest overlaps t.runs) _ s h13.1 in
    let h15 = past (ltb (lowest joins t.runs) (length t.runs)) 15 (lowest joins t.runs) _ s h14.1 in
    let h16 = past (ltb (lowest twice t.runs) (length t.runs)) 16 (lowest twice t.runs) _ s h15.1 in
    let h17 = past (ltb (bad_sum t) (length t.duties)) 17 (bad_sum t) _ s h16.1 in (
      record { block_length = h11; slices = h12; order = h13.0; overlap = h14.0; joint = h15.0; twofold = h16.0; sums = h17.0 },
      sym
          (answer_one t s h17.1),
    )

-- 11 and 12 hand on the very table that they are asked of
record DutiesPassed (t s : Table) : Type 0 where
  block_length : undivided t.ticks t.duties ≡ false
  slices : ltb (bad_slice t.ticks t.duties) (length t.duties) ≡ false
  same : s ≡ t

duties_passed : (t s : Table) → judge_duties t ≡ answer s → DutiesPassed t s
unfolding judge_duties
duties_passed t s h =
    let h11 = past (undivided t.ticks t.duties) 11 0 _ s h in
    let h12 = past (ltb (bad_slice t.ticks t.duties) (length t.duties)) 12 (bad_slice t.ticks t.duties) _ s h11.1 in
    record {
      block_length = h11.0;
      slices = h12.0;
      same = sym (answer_one t s h12.1);
    }

pub duties_same : (t s : Table) → judge_duties t ≡ answer s → s ≡ t
duties_same t s h = (duties_passed t s h).same

-- the judge answers nothing but the table itself, and that only where no test finds a place
judge_passed : (t s : Table) → judge_table t ≡ answer s → Passed t × (s ≡ t)
unfolding judge_table
judge_passed t s h =
    let a = then_answer (judge_duties t) judge_runs s h in
    let p = duties_passed t a.0 a.1 in
    judge_runs_passed t s p.block_length p.slices (ap judge_runs (sym p.same) ∙ a.2)

pub judge_same : (t s : Table) → judge_table t ≡ answer s → s ≡ t
judge_same t s h = (judge_passed t s h).1

pub accepted_passed : (t : Table) → judge_table t ≡ answer t → Passed t
accepted_passed t h = (judge_passed t t h).0

pub passed_accepted : (t : Table) → Passed t → judge_table t ≡ answer t
unfolding judge_table judge_duties judge_runs
passed_accepted t p = rw (p.block_length, p.slices, p.order, p.overlap, p.joint, p.twofold, p.sums)

-- ---- the tests and the statements

-- every run has at least one unit
abbrev pub Long : Table → Type 0
Long t = (k : ℕ) → k < length t.runs → 1 ≤ (run_at t.runs k).length

pub ranged_long : {w : Width} {t : Table} → Ranged w t → Long t
ranged_long r k h = (r.run_ranged_lem k h).some_units

-- 12 and 17 are searches over the duties
pub slices_met : (t : ℕ) (ds : List Duty) → (ltb (bad_slice t ds) (length ds) ≡ false) ↔ Wholes t ds
slices_met t ds = none_found (λ i. whole_decides t (duty_at ds i)) (length ds)

sums_met : (t : Table) → (ltb (bad_sum t) (length t.duties) ≡ false)
    ↔ ((i : ℕ) → i < length t.duties → units_of t.runs i ≡ slice t.ticks (duty_at t.duties i))
sums_met t = none_found (λ i. eqb_decides (units_of t.runs i) (slice t.ticks (duty_at t.duties i))) (length t.duties)

-- 13 is a search over the runs
order_met : (t : Table) → (ltb (bad_order t) (length t.runs) ≡ false) ↔ InOrder t.runs
order_met t = (
  (λ h. ordered_clear t.runs (none_clear (unordered t.runs) (length t.runs) h)),
  (λ o. clear_none (unordered t.runs) (length t.runs) (clear_ordered t.runs o)),
)

passed_meets : (t : Table) → Long t → Passed t → Meets t
passed_meets t long p =
    let xs = t.runs in
    record {
      block_length = (divided_when t.ticks t.duties).0 p.block_length;
      slices_whole = (slices_met t.ticks t.duties).0 p.slices;
      in_order = (order_met t).0 p.order;
      apart_in_row = λ j k l h. overlaps_apart (run_at xs j) (run_at xs k) (lowest_none overlaps xs p.overlap j k l h);
      not_joined = joins_any xs ((order_met t).0 p.order) long (lowest_none joins xs p.joint);
      apart_of_duty = λ j k l h. twice_apart (run_at xs j) (run_at xs k) (lowest_none twice xs p.twofold j k l h);
      sums_right = (sums_met t).0 p.sums;
    }

meets_passed : (t : Table) → Long t → Meets t → Passed t
meets_passed t long m =
    let xs = t.runs in
    record {
      block_length = (divided_when t.ticks t.duties).1 m.block_length;
      slices = (slices_met t.ticks t.duties).1 m.slices_whole;
      order = (order_met t).1 m.in_order;
      overlap = none_lowest overlaps xs
          (λ j k l h. apart_overlaps (run_at xs j) (run_at xs k) (long j (omega arith)) (long k h) (m.apart_in_row j k l h));
      joint = none_lowest joins xs (λ j k l h. not_joins (run_at xs j) (run_at xs k) (m.not_joined j k (omega arith) h));
      twofold = none_lowest twice xs
          (λ j k l h. apart_twice (run_at xs j) (run_at xs k) (long j (omega arith)) (long k h) (m.apart_of_duty j k l h));
      sums = (sums_met t).1 m.sums_right;
    }

-- "A table that meets none of 10 to 17 is accepted", and no other is
pub accepted_iff : (t : Table) → Long t → (judge_table t ≡ answer t) ↔ Meets t
accepted_iff t long = ((λ h. passed_meets t long (accepted_passed t h)), (λ m. passed_accepted t (meets_passed t long m)))

-- ---- accepted bytes

-- the table in accepted bytes is the one read, and it passed the judge
pub accepted-read : (b : List ℕ) (t : Table) → accepted b ≡ answer t → (parse small b ≡ answer t) × (judge_table t ≡ answer t)
unfolding accepted
accepted-read b t h =
    let r = then_answer (parse small b) judge_table t h in
    let p = judge_same r.0 t r.2 in
    (r.1 ∙ ap answer (sym p), ap judge_table p ∙ r.2)

pub read-accepted : (b : List ℕ) (t : Table) → parse small b ≡ answer t → judge_table t ≡ answer t → accepted b ≡ answer t
unfolding accepted
read-accepted b t p q = rw p q

-- what the reader refuses is refused, and what it reads goes to the rules
pub read_refused : (b : List ℕ) {n p : ℕ} → read_table b ≡ refused n p → accepted b ≡ refused n p
unfolding accepted
read_refused b e = rw e

pub read-judged : (b : List ℕ) {t : Table} → read_table b ≡ answer t → accepted b ≡ judge_table t
unfolding accepted
read-judged b e = rw e

-- 11, and what is left where it is met
pub length-wrong : (t : Table) → undivided t.ticks t.duties ≡ true → judge_duties t ≡ refused 11 0
unfolding judge_duties
length-wrong t h = rw h

pub length_right : (t : Table) → undivided t.ticks t.duties ≡ false
    → judge_duties t ≡ fault 12 (bad_slice t.ticks t.duties) (length t.duties) (answer t)
unfolding judge_duties
length_right t h = rw h

-- the rules of the duties, then those of the runs
pub duties_refuse : (t : Table) {n p : ℕ} → judge_duties t ≡ refused n p → judge_table t ≡ refused n p
unfolding judge_table
duties_refuse t e = rw e

pub duties_pass : (t s : Table) → judge_duties t ≡ answer s → judge_table t ≡ judge_runs t
unfolding judge_table
duties_pass t s e = rw e (ap judge_runs (duties_same t s e))

-- ---- the block length

-- the common divisors of all periods are the divisors of the greatest
pub common_when : (t : ℕ) (ds : List Duty) → (t ∣ block_length_of ds) ↔ CommonDivisor t ds
unfolding block_length_of
common_when t ds = (
  (λ h i l. rw (get_or-map period ds i (duty 0 0)) at ((gcd_of-common (map period ds) t).0 h i (rw (length-map ds period) l))),
  (λ c. (gcd_of-common (map period ds) t).1
      (λ i l. rw (get_or-map period ds i (duty 0 0)) (c i (rw (length-map ds period) at l)))),
)
  where
    period : Duty → ℕ
    period x = x.period

-- so the greatest divides every period
pub block_divides : (ds : List Duty) → CommonDivisor (block_length_of ds) ds
block_divides ds = (common_when (block_length_of ds) ds).0 (dvd_refl (block_length_of ds))

-- and so does a table's T. What is proved of accepted tables uses this alone of rule 11
pub ticks_divides : (t : Table) → Meets t → CommonDivisor t.ticks t.duties
ticks_divides t m = m.block_length

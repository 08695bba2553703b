-- Each rule's test and the rule's statement say the same. A test on two runs is taken apart into facts of numbers; a search that finds
-- nothing says so of every index below the bound. Rule 15's test looks at earlier runs only: where 13 holds the runs stand in order,
-- so a run of the same row that stops where this one starts is an earlier one.
-- Assumes nothing.
use Prim.Native.Nat.{ℕ, zero, suc, ◌+◌, ◌*◌, ◌-◌, ◌≤◌, ◌<◌, ◌∣◌}
use mathlib.Core.Path.{◌≡◌, refl, sym, ap}
use mathlib.Core.Bool.{Bool, true, false}
use mathlib.Core.List.{List}
use mathlib.Core.Logic.{◌↔◌}
use native.Mathlib.Omega.{arith}
use lib.Dec.{ltb, eqb}
use lib.ListN.{length}
use borrow.Author.Tests.{ltb-true, lt-ltb, eqb-true, eqb-false, eq-eqb, ne_eqb, not-false}
use Rattle.laws.specs.Search.{any}
use Rattle.laws.proofs.Cases.{by_cases, lt_or_le, by_order, not_both, refuted, and_left, and_right}
use Rattle.laws.proofs.Search.{Clear, none_clear, clear_none}
use Rattle.laws.proofs.Decides.{Decides, Not, divides_decides, none_found}
use Rattle.paper.specs.declared.Duty.{Duty}
use Rattle.paper.specs.declared.Run.{Run}
use Rattle.paper.specs.Duties.{duty_at}
use Rattle.paper.specs.Words.{stop, undivided, run_at, whole}
use Rattle.paper.specs.Rules.{before, meet, unordered, overlaps, joins, twice, lowest}
use Rattle.paper.specs.Statements.{Has, Apart, CommonDivisor}

-- ---- order

-- x is before y: on a lower row, or on the same row with a lower first unit
pub before-row : (x y : Run) → before x y ≡ true → x.row.0 ≤ y.row.0
unfolding before
before-row x y h =
    by_cases (eqb x.row.0 y.row.0) (λ e. omega (arith, eqb-true x.row.0 y.row.0 e))
    (λ e. omega (arith, ltb-true x.row.0 y.row.0 (rw e at h)))

pub before-first : (x y : Run) → before x y ≡ true → x.row.0 ≡ y.row.0 → x.first < y.first
unfolding before
before-first x y h e = ltb-true x.first y.first (rw (eq-eqb x.row.0 y.row.0 e) at h)

pub before_when : (x y : Run) → x.row.0 ≤ y.row.0 → (x.row.0 ≡ y.row.0 → x.first < y.first) → before x y ≡ true
unfolding before
before_when x y l f =
    by_cases (eqb x.row.0 y.row.0) (λ e. rw e (lt-ltb x.first y.first (f (eqb-true x.row.0 y.row.0 e))))
    (λ e. rw e (lt-ltb x.row.0 y.row.0 (omega (arith, eqb-false x.row.0 y.row.0 e))))

pub before_trans : (x y z : Run) → before x y ≡ true → before y z ≡ true → before x z ≡ true
before_trans x y z p q =
    let a = before-row x y p in
    let b = before-row y z q in
    before_when x z (omega arith)
    (λ e. let c = before-first x y p (omega arith) in let d = before-first y z q (omega arith) in omega arith)

-- 13 is said of neighbours; by transitivity it holds of any two, the earlier before the later
abbrev pub InOrder : List Run → Type 0
InOrder xs = (k : ℕ) → k + 1 < length xs → before (run_at xs k) (run_at xs (k + 1)) ≡ true

order_after : (xs : List Run) → InOrder xs → (j d : ℕ) → j + suc d < length xs → before (run_at xs j) (run_at xs (j + suc d)) ≡ true
order_after xs o j zero h = o j h
order_after xs o j (suc d) h =
    let e : j + suc (suc d) ≡ j + suc d + 1 = omega arith in
    rw e (before_trans (run_at xs j) (run_at xs (j + suc d)) (run_at xs (j + suc d + 1)) (order_after xs o j d (omega arith))
    (o (j + suc d) (omega arith)))

pub order_any : (xs : List Run) → InOrder xs → (j k : ℕ) → j < k → k < length xs → before (run_at xs j) (run_at xs k) ≡ true
order_any xs o j k l h = let e : k ≡ j + suc (k - j - 1) = omega arith in rw e (order_after xs o j (k - j - 1) (omega arith))

-- the test of 13 finds no run exactly when the runs stand in order
pub ordered_clear : (xs : List Run) → Clear (unordered xs) (length xs) → InOrder xs
unfolding unordered
ordered_clear xs c k h = not-false (before (run_at xs k) (run_at xs (k + 1))) (c (suc k) (omega arith))

pub clear_ordered : (xs : List Run) → InOrder xs → Clear (unordered xs) (length xs)
unfolding unordered
clear_ordered xs o zero h = refl
clear_ordered xs o (suc k) h = rw (o k (omega arith))

-- ---- a shared unit

-- where two runs have a unit in common, each starts before the other stops
pub shares_meet : (x y : Run) (u : ℕ) → Has x u → Has y u → meet x y ≡ true
unfolding meet
shares_meet x y u p q = rw (lt-ltb x.first (stop y) (omega arith), lt-ltb y.first (stop x) (omega arith))

-- where each of two runs of some length starts before the other stops, the later start is a unit of both
pub meet_shares : (x y : Run) → 1 ≤ x.length → 1 ≤ y.length → meet x y ≡ true → (u : ℕ) × Has x u × Has y u
unfolding meet
meet_shares x y lx ly h =
    let p = ltb-true x.first (stop y) (and_left (ltb x.first (stop y)) (ltb y.first (stop x)) h) in
    let q = ltb-true y.first (stop x) (and_right (ltb x.first (stop y)) (ltb y.first (stop x)) h) in
    lt_or_le x.first y.first (λ l. (y.first, (omega arith, omega arith), (omega arith, omega arith)))
    (λ l. (x.first, (omega arith, omega arith), (omega arith, omega arith)))

-- so the test fails exactly when they share none
pub meet_apart : (x y : Run) → meet x y ≡ false → Apart x y
meet_apart x y h u p q = not_both (shares_meet x y u p q) h

pub apart_meet : (x y : Run) → 1 ≤ x.length → 1 ≤ y.length → Apart x y → meet x y ≡ false
apart_meet x y lx ly a = refuted (meet x y) (λ h. let s = meet_shares x y lx ly h in a s.0 s.1 s.2)

-- ---- a run and an earlier one

-- no two runs, the earlier first, are so to one another
abbrev pub NoPair : (Run → Run → Bool) → List Run → Type 0
NoPair bad xs = (j k : ℕ) → j < k → k < length xs → bad (run_at xs j) (run_at xs k) ≡ false

-- the search of 14, 15 and 16 finds no run exactly when no two runs are so
pub lowest_none : (bad : Run → Run → Bool) (xs : List Run) → ltb (lowest bad xs) (length xs) ≡ false → NoPair bad xs
lowest_none bad xs h j k l m =
    none_clear (λ i. bad (run_at xs i) (run_at xs k)) k (none_clear (λ i. any (λ n. bad (run_at xs n) (run_at xs i)) i) (length xs) h k m)
    j l

pub none_lowest : (bad : Run → Run → Bool) (xs : List Run) → NoPair bad xs → ltb (lowest bad xs) (length xs) ≡ false
none_lowest bad xs c =
    clear_none (λ k. any (λ j. bad (run_at xs j) (run_at xs k)) k) (length xs)
    (λ k m. clear_none (λ j. bad (run_at xs j) (run_at xs k)) k (λ j l. c j k l m))

-- 14: on one row two runs share no unit
pub overlaps_apart : (x y : Run) → overlaps x y ≡ false → x.row.0 ≡ y.row.0 → Apart x y
unfolding overlaps
overlaps_apart x y h e = meet_apart x y (rw (eq-eqb x.row.0 y.row.0 e) at h)

pub apart_overlaps : (x y : Run) → 1 ≤ x.length → 1 ≤ y.length → (x.row.0 ≡ y.row.0 → Apart x y) → overlaps x y ≡ false
unfolding overlaps
apart_overlaps x y lx ly a =
    by_cases (eqb x.row.0 y.row.0) (λ e. rw e (apart_meet x y lx ly (a (eqb-true x.row.0 y.row.0 e)))) (λ e. rw e)

-- 15: of one row and duty, the later run does not start where the earlier stops
pub joins_not : (x y : Run) → joins x y ≡ false → x.row.0 ≡ y.row.0 → x.duty ≡ y.duty → stop x ≡ y.first → ⊥
unfolding joins
joins_not x y h r d s =
    not_both (rw (eq-eqb x.row.0 y.row.0 r, eq-eqb x.duty y.duty d, eq-eqb (stop x) y.first s)) h

pub not_joins : (x y : Run) → (x.row.0 ≡ y.row.0 → x.duty ≡ y.duty → stop x ≡ y.first → ⊥) → joins x y ≡ false
unfolding joins
not_joins x y n =
    by_cases (eqb x.row.0 y.row.0)
    (λ r. by_cases (eqb x.duty y.duty)
    (λ d. rw (r, d) (ne_eqb (stop x) y.first (λ s. n (eqb-true x.row.0 y.row.0 r) (eqb-true x.duty y.duty d) s)))
    (λ d. rw (r, d)))
    (λ r. rw r)

-- 16: on two rows two runs of one duty share no unit
pub twice_apart : (x y : Run) → twice x y ≡ false → x.duty ≡ y.duty → (x.row.0 ≡ y.row.0 → ⊥) → Apart x y
unfolding twice
twice_apart x y h d r = meet_apart x y (rw (ne_eqb x.row.0 y.row.0 r, eq-eqb x.duty y.duty d) at h)

pub apart_twice : (x y : Run) → 1 ≤ x.length → 1 ≤ y.length → (x.duty ≡ y.duty → (x.row.0 ≡ y.row.0 → ⊥) → Apart x y) → twice x y
    ≡ false
unfolding twice
apart_twice x y lx ly a =
    by_cases (eqb x.row.0 y.row.0)
    (λ r. rw r)
    (λ r. by_cases (eqb x.duty y.duty)
    (λ d. rw (r, d) (apart_meet x y lx ly (a (eqb-true x.duty y.duty d) (eqb-false x.row.0 y.row.0 r))))
    (λ d. rw (r, d)))

-- 15 of all runs: a run of the same row that stops where this one starts is another and stands before it
abbrev pub NotJoined : List Run → Type 0
NotJoined xs =
    (j k : ℕ) → j < length xs → k < length xs → (run_at xs j).row.0 ≡ (run_at xs k).row.0 → (run_at xs j).duty ≡ (run_at xs k).duty
    → stop (run_at xs j) ≡ (run_at xs k).first → ⊥

pub joins_any : (xs : List Run) → InOrder xs → ((k : ℕ) → k < length xs → 1 ≤ (run_at xs k).length) → NoPair joins xs → NotJoined xs
joins_any xs o long n j k hj hk r d s =
    by_order j k (λ l. joins_not (run_at xs j) (run_at xs k) (n j k l hk) r d s)
    (λ l. let b = before-first (run_at xs k) (run_at xs j) (order_any xs o k j l hj) (sym r) in omega arith)
    (λ e. omega (arith, long j hj, ap (λ (i : ℕ). (run_at xs i).first) e))

-- ---- a duty

-- 11: T divides every period, or there is one that it does not divide
pub divided_when : (t : ℕ) (ds : List Duty) → (undivided t ds ≡ false) ↔ CommonDivisor t ds
divided_when t ds = none_found (λ i. divides_decides t (duty_at ds i).period) (length ds)

pub undivided_when : (t : ℕ) (ds : List Duty) → (undivided t ds ≡ true) ↔ Not (CommonDivisor t ds)
undivided_when t ds = (
  (λ h c. not_both h ((divided_when t ds).1 c)),
  (λ n. by_cases (undivided t ds) (λ h. h) (λ h. absurd (n ((divided_when t ds).0 h)))),
)

-- 12: a slice is whole exactly when the period divides T times the service
pub whole_decides : (t : ℕ) (x : Duty) → Decides (whole t x) (x.period ∣ t * x.service)
unfolding whole
whole_decides t x = divides_decides x.period (t * x.service)

-- what 6 and 12 ask of duty i, and of all duties
abbrev pub Whole : ℕ → List Duty → ℕ → Type 0
Whole t ds i = (duty_at ds i).period ∣ t * (duty_at ds i).service

abbrev pub Wholes : ℕ → List Duty → Type 0
Wholes t ds = (i : ℕ) → i < length ds → Whole t ds i

-- Rule 16 by the two neighbours in a sorted list: each duty's earlier runs are kept sorted by first unit, and a run is held against two of
-- them, the last that starts before it and the first that does not.
--
-- Why: go up the runs as long as none breaks 16, where 14 is met. The duty's runs so far share no unit with one another, on one row by 14
-- and on two by 16; so in the list each stops by the time that the next one starts. Take the next run, k, and an earlier one of its duty.
-- If that one starts before k does and is not the last to do so, it stops by the time that the last one starts, which is before k. If it
-- starts no sooner than k, but before k stops, so does the first of those. And a run of the duty that shares a unit with k stands on
-- another row, by 14 again, so that 16 is broken.
-- Assumes nothing.
use Prim.Native.Nat.{ℕ, ◌-◌, ◌≤◌, ◌<◌}
use mathlib.Core.Path.{◌≡◌, sym, ap, ◌∙◌}
use mathlib.Core.Bool.{Bool, true, false, not, ◌&&◌, ◌||◌}
use mathlib.Core.List.{List}
use native.Mathlib.Omega.{arith}
use lib.Dec.{ltb, eqb}
use lib.ListN.{length, get_or}
use borrow.Author.Tests.{ltb-true, ltb-false, lt-ltb, le-ltb, eqb-true, eqb-false, eq-eqb}
use Rattle.laws.specs.Search.{first, any}
use Rattle.laws.proofs.Cases.{by_cases, lt_or_le, by_order, both_ways, and_left, and_right, and_both}
use Rattle.laws.proofs.Search.{Clear, first_holds, none_clear, any_some}
use Rattle.laws.proofs.SortedLists.{
  Kept,
  rank,
  Sorted,
  Recent,
  Below,
  Between,
  Distinct,
  below_number,
  below_key,
  spot_on,
  onward,
  last_below,
  first_above,
}
use Rattle.paper.specs.declared.Run.{Run}
use Rattle.paper.specs.Words.{stop, run_at}
use Rattle.paper.specs.Rules.{meet, overlaps, twice}
use Rattle.table_laws.proofs.Rules.{NoPair}

-- each run is in the list of its duty, sorted by its first unit
abbrev pub kept : List Run → Kept
kept xs = record { owner = λ i. (run_at xs i).duty; key = λ i. (run_at xs i).first; most = length xs }

-- a pointer leads to a run that starts before a unit
abbrev pub starts_before : List Run → ℕ → ℕ → Bool
starts_before xs c u = ltb 0 c && ltb (run_at xs (c - 1)).first u

-- a spot is that of a run, and it stops after a unit starts
abbrev pub stops_after : List Run → ℕ → ℕ → Bool
stops_after xs s u = ltb s (length xs) && ltb u (stop (run_at xs s))

-- each, told apart
pub starts_some : (xs : List Run) (c u : ℕ) → 0 < c → starts_before xs c u ≡ ltb (run_at xs (c - 1)).first u
starts_some xs c u h = rw (lt-ltb 0 c h)

pub stops_front : (xs : List Run) (s u : ℕ) → length xs ≤ s → stops_after xs s u ≡ false
stops_front xs s u h = rw (le-ltb s (length xs) h)

pub stops_run : (xs : List Run) (s u : ℕ) → s < length xs → stops_after xs s u ≡ ltb u (stop (run_at xs s))
stops_run xs s u h = rw (lt-ltb s (length xs) h)

-- 16 of run k
abbrev pub twice_at : List Run → ℕ → Bool
twice_at xs k = any (λ j. twice (run_at xs j) (run_at xs k)) k

-- what 16 finds: runs of some length, of which no two on one row share a unit
pub record Rowed (xs : List Run) : Type 0 where
  pub apart : NoPair overlaps xs
  pub long : (k : ℕ) → k < length xs → 1 ≤ (run_at xs k).length

-- ---- two runs of one duty

-- on one row they share no unit, so that to share one is to be on two
twice-meet : (x y : Run) → overlaps x y ≡ false → x.duty ≡ y.duty → twice x y ≡ meet x y
unfolding overlaps twice
twice-meet x y h d =
    by_cases (eqb x.row.0 y.row.0) (λ r. rw r (sym (rw r at h))) (λ r. rw (r, eq-eqb x.duty y.duty d))

twice-duty : (x y : Run) → twice x y ≡ true → x.duty ≡ y.duty
unfolding twice
twice-duty x y h = eqb-true x.duty y.duty (and_right (not (eqb x.row.0 y.row.0)) _ (and_left _ (meet x y) h))

-- where y starts no sooner than x, they share a unit exactly where y starts before x stops
meet-later : (x y : Run) → x.first ≤ y.first → 1 ≤ y.length → (meet x y ≡ ltb y.first (stop x))
unfolding meet
meet-later x y l long = rw (lt-ltb x.first (stop y) (omega arith))

meet_sooner : (x y : Run) → y.first ≤ x.first → 1 ≤ x.length → (meet x y ≡ ltb x.first (stop y))
unfolding meet
meet_sooner x y l long = rw (lt-ltb y.first (stop x) (omega arith)) (by_cases (ltb x.first (stop y)) (λ p. rw p) (λ p. rw p))

-- of runs so far that do not break 16, no two of one duty share a unit
own_apart : {xs : List Run} {k : ℕ} → Rowed xs → Clear (twice_at xs) k → k ≤ length xs → (i j : ℕ) → i < j → j < k
    → (run_at xs i).duty ≡ (run_at xs j).duty → meet (run_at xs i) (run_at xs j) ≡ false
own_apart {xs} R c few i j l h d =
    sym (twice-meet (run_at xs i) (run_at xs j) (R.apart i j l (omega arith)) d)
    ∙ none_clear (λ m. twice (run_at xs m) (run_at xs j)) j (c j h) i l

-- so each stops by the time that any later in the list starts
own_stopped : {xs : List Run} {k : ℕ} → Rowed xs → Clear (twice_at xs) k → k ≤ length xs → (i j : ℕ) → i < k → j < k → (i ≡ j → ⊥)
    → (run_at xs i).duty ≡ (run_at xs j).duty → (run_at xs i).first ≤ (run_at xs j).first → stop (run_at xs i) ≤ (run_at xs j).first
own_stopped {xs} R c few i j p q n d l =
    let x = run_at xs i in
    let y = run_at xs j in
    let long = R.long j (omega arith) in
    ltb-false y.first (stop x) (by_order i j
    (λ o. sym (meet-later x y l long) ∙ own_apart R c few i j o q d)
    (λ o. sym (meet_sooner y x l long) ∙ own_apart R c few j i o p (sym d))
    (λ o. absurd (n o)))

-- and no two start together
pub distinct : {xs : List Run} {k : ℕ} → Rowed xs → Clear (twice_at xs) k → k ≤ length xs → Distinct (kept xs) k
distinct {xs} {k} R c few i j p q d e =
    by_order i j (λ o. absurd (never (omega arith))) (λ o. absurd (never (omega arith))) (λ o. o)
  where
    never : (i ≡ j → ⊥) → ⊥
    never n = omega (arith, own_stopped R c few i j p q n d (omega (arith, e)), R.long i (omega arith), e)

-- ---- the spot of run k in the list of its duty

-- what a pointer that leads to a run before a unit tells, and what one that does not
pub before_some : (xs : List Run) (c u : ℕ) → starts_before xs c u ≡ true → 0 < c
before_some xs c u h = ltb-true 0 c (and_left (ltb 0 c) _ h)

before_unit : (xs : List Run) (c u : ℕ) → starts_before xs c u ≡ true → (run_at xs (c - 1)).first < u
before_unit xs c u h = ltb-true (run_at xs (c - 1)).first u (and_right (ltb 0 c) _ h)

not_before : (xs : List Run) (c u : ℕ) → starts_before xs c u ≡ false → 0 < c → u ≤ (run_at xs (c - 1)).first
not_before xs c u h some = ltb-false (run_at xs (c - 1)).first u (sym (starts_some xs c u some) ∙ h)

-- the duty's last run is before it, if it starts before it
pub begin_last : (xs : List Run) {owners k : ℕ} {last : List ℕ} → Recent (kept xs) owners k last → k < length xs
    → (run_at xs k).duty < owners
    → starts_before xs (get_or last (run_at xs k).duty 0) (run_at xs k).first ≡ true
    → Below (kept xs) k (get_or last (run_at xs k).duty 0 - 1)
begin_last xs {owners} {k} {last} R few own h =
    let c = get_or last (run_at xs k).duty 0 in
    let some = before_some xs c (run_at xs k).first h in
    let was = R.earlier (run_at xs k).duty own some in
    below_number (kept xs) k (c - 1) (omega (arith, was.0)) few was.1 (before_unit xs c (run_at xs k).first h)

-- a spot before it, whose pointer leads to a run that starts before it: one step further
pub step_on : (xs : List Run) {owners k s : ℕ} {pointers : List ℕ} → Sorted (kept xs) owners k pointers → k < length xs
    → (run_at xs k).duty < owners → Below (kept xs) k s → starts_before xs (get_or pointers s 0) (run_at xs k).first ≡ true
    → (0 < get_or pointers s 0) × Below (kept xs) k (get_or pointers s 0 - 1)
    × (rank (kept xs) s < rank (kept xs) (get_or pointers s 0 - 1))
step_on xs {owners} {k} {s} {pointers} S few own B h =
    let c = get_or pointers s 0 in
    let some = before_some xs c (run_at xs k).first h in
    let on = spot_on S few own B some (before_unit xs c (run_at xs k).first h) in
    (some, on.0, on.1)

-- one whose pointer leads to none is its own
pub step_none : (xs : List Run) {owners k s : ℕ} {pointers : List ℕ} → Sorted (kept xs) owners k pointers → k < length xs
    → (run_at xs k).duty < owners → Below (kept xs) k s → starts_before xs (get_or pointers s 0) (run_at xs k).first ≡ false
    → Between (kept xs) owners k pointers s
step_none xs {owners} {k} {s} {pointers} S few own B h =
    record { sorted = S; few = few; owned = own; below = B; above = not_before xs (get_or pointers s 0) (run_at xs k).first h }

-- ---- run k and its two neighbours there

-- 16 of run k: the one before it in its duty's list has not stopped as it starts, or the one after it starts before it stops
twice_beside : {xs : List Run} {owners k p : ℕ} {pointers : List ℕ} → Rowed xs → Clear (twice_at xs) k
    → Between (kept xs) owners k pointers p
    → stops_after xs p (run_at xs k).first || starts_before xs (get_or pointers p 0) (stop (run_at xs k)) ≡ twice_at xs k
twice_beside {xs} {owners} {k} {p} {pointers} R clear B =
    both_ways _ (twice_at xs k) (λ h. by_cases (stops_after xs p y.first) before (λ q. after (rw q at h))) found
  where
    y : Run
    y = run_at xs k

    c : ℕ
    c = get_or pointers p 0

    -- an earlier run of the duty that shares a unit with k breaks 16
    met : (j : ℕ) → j < k → (run_at xs j).duty ≡ y.duty → meet (run_at xs j) y ≡ true → twice_at xs k ≡ true
    met j l d m =
        any_some (λ i. twice (run_at xs i) y) k j l (twice-meet (run_at xs j) y (R.apart j k l B.few) d ∙ m)

    before : stops_after xs p y.first ≡ true → twice_at xs k ≡ true
    before h =
        let at = below_key B.below (ltb-true p (length xs) (and_left (ltb p (length xs)) _ h)) in
        met p at.0 at.1
        (meet-later (run_at xs p) y (omega (arith, at.2)) (R.long k B.few) ∙ and_right (ltb p (length xs)) _ h)

    after : starts_before xs c (stop y) ≡ true → twice_at xs k ≡ true
    after h =
        let some = before_some xs c (stop y) h in
        let on = (onward B).ahead some in
        let earlier : c - 1 < k = omega (arith, on.0) in
        met (c - 1) earlier on.1
        (meet_sooner (run_at xs (c - 1)) y (B.above some) (R.long (c - 1) (omega (arith, B.few))) ∙ and_right (ltb 0 c) _ h)

    -- one that starts before k and has not stopped then is the last that starts before k
    last : (j : ℕ) → j < k → (run_at xs j).duty ≡ y.duty → (run_at xs j).first < y.first → y.first < stop (run_at xs j)
        → stops_after xs p y.first ≡ true
    last j l d sooner shares =
        let at = last_below B j l d sooner in
        let own = below_key B.below at.0 in
        and_both (ltb p (length xs)) _ (lt-ltb p (length xs) at.0) (lt-ltb y.first (stop (run_at xs p))
        (by_cases (eqb j p) (λ e. omega (arith, ap (λ (i : ℕ). stop (run_at xs i)) (eqb-true j p e)))
        (λ e. absurd (omega (
          arith,
          own.2,
          own_stopped R clear (omega (arith, B.few)) j p l own.0 (eqb-false j p e) (d ∙ sym own.1) at.1,
        )))))

    -- where one starts no sooner than k but before k stops, so does the first of those
    next : (j : ℕ) → j < k → (run_at xs j).duty ≡ y.duty → y.first ≤ (run_at xs j).first → (run_at xs j).first < stop y
        → starts_before xs c (stop y) ≡ true
    next j l d later shares =
        let at = first_above B j l d later in
        and_both (ltb 0 c) _ (lt-ltb 0 c at.0) (lt-ltb (run_at xs (c - 1)).first (stop y) (omega (arith, at.1)))

    found : twice_at xs k ≡ true → stops_after xs p y.first || starts_before xs c (stop y) ≡ true
    found h =
        let j = first (λ i. twice (run_at xs i) y) k in
        let x = run_at xs j in
        let l = ltb-true j k h in
        let t : twice x y ≡ true = first_holds (λ i. twice (run_at xs i) y) k l in
        let d = twice-duty x y t in
        let m : meet x y ≡ true = sym (twice-meet x y (R.apart j k l B.few) d) ∙ t in
        lt_or_le x.first y.first
        (λ o. rw (last j l d o (ltb-true y.first (stop x) (sym (meet-later x y (omega arith) (R.long k B.few)) ∙ m))))
        (λ o.
        let n = next j l d o (ltb-true x.first (stop y) (sym (meet_sooner x y o (R.long j (omega (arith, B.few)))) ∙ m)) in
        by_cases (stops_after xs p y.first) (λ q. rw q) (λ q. rw (q, n)))

-- the same as it is looked for: by y, which is run k, and by c, which is the pointer at its spot
pub twice-told : {xs : List Run} {owners k p c : ℕ} {pointers : List ℕ} {y : Run} {unstopped started : Bool} → Rowed xs
    → Clear (twice_at xs) k → Between (kept xs) owners k pointers p → y ≡ run_at xs k → c ≡ get_or pointers p 0
    → unstopped ≡ stops_after xs p y.first → started ≡ starts_before xs c (stop y) → unstopped || started ≡ twice_at xs k
twice-told R clear B run pointer before after = rw (before, after, pointer, run) (twice_beside R clear B)

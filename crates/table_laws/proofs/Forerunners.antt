-- Rules 13 to 15 by the forerunner alone. 13 is said of it. Where the runs stand in order (13), the lowest run that shares a unit with an
-- earlier run of its row (14) is the lowest that shares one with its forerunner; and where 14 is met too, the lowest that starts where a
-- run of its row and duty stops (15) is the lowest of which its forerunner is such a run.
--
-- Why: go up the runs as long as none shares a unit with its forerunner, and take the next one, k, and a run j of its row further back than
-- the forerunner. Run j + 1 stands between the two. Rows never fall along the list, so it is on their row; it has been passed, so it starts
-- no sooner than j stops; and k starts later than it does. So j stops before k starts: k can share a unit with none but its forerunner, and
-- start where none but that one stops.
--
-- Of 14 that is said of the lowest run only. Behind it the two tests differ: after a run of units 0 to 9 and one of unit 2, the run of unit
-- 5 shares a unit with the first run and none with its forerunner.
--
-- And one look at a run and its forerunner tells whether any of the three is broken.
-- Assumes nothing.
use Prim.Native.Nat.{ℕ, zero, suc, ◌+◌, ◌≤◌, ◌<◌}
use mathlib.Core.Path.{◌≡◌, refl, sym, ◌∙◌}
use mathlib.Core.Bool.{Bool, true, false, not, ◌&&◌, ◌||◌}
use mathlib.Core.List.{List}
use native.Mathlib.Numerals.{add-one}
use native.Mathlib.Omega.{arith}
use lib.Dec.{ltb, eqb}
use lib.ListN.{length}
use borrow.Author.Tests.{ltb-true, ltb-false, lt-ltb, le-ltb, eqb-true, eq-eqb}
use Rattle.laws.specs.Choice.{pick}
use Rattle.laws.specs.Search.{first}
use Rattle.laws.proofs.Cases.{by_cases, lt_or_le, by_order, not_both, refuted, and_left, and_right, or_left, or_right}
use Rattle.laws.proofs.Search.{Clear, beside, first_none, first_clear, first_agree, first-beside, beside-fails}
use Rattle.paper.specs.declared.Run.{Run}
use Rattle.paper.specs.Words.{stop, run_at, Table}
use Rattle.paper.specs.Rules.{before, meet, unordered, overlaps, joins, lowest, bad_order}
use Rattle.table_laws.proofs.Rules.{InOrder, NoPair, lowest_none, before-row, before-first, order_any, ordered_clear, not_joins}

-- 13 is said of a run and its forerunner
abbrev pub misplaced : List Run → ℕ → ℕ → Bool
misplaced xs j k = not (before (run_at xs j) (run_at xs k))

pub lowest-misplaced : (xs : List Run) → first (unordered xs) (length xs) ≡ first (beside (misplaced xs)) (length xs)
unfolding unordered beside
lowest-misplaced xs = first_agree (unordered xs) (beside (misplaced xs)) (length xs) (λ k h c. same k)
  where
    same : (k : ℕ) → unordered xs k ≡ beside (misplaced xs) k
    same zero = refl
    same (suc k) = rw add-one

-- where it finds no run, the runs stand in order
pub found_ordered : (t : Table) → length t.runs ≤ bad_order t → InOrder t.runs
found_ordered t h = ordered_clear t.runs (λ k l. first_clear (unordered t.runs) (length t.runs) k (omega arith))

-- two runs in order share a unit of a row exactly where the second starts on it before the first stops
overlaps_ordered : (x y : Run) → before x y ≡ true → overlaps x y ≡ (eqb x.row.0 y.row.0 && ltb y.first (stop x))
unfolding overlaps meet
overlaps_ordered x y h =
    by_cases (eqb x.row.0 y.row.0)
    (λ e. rw (e, lt-ltb x.first (stop y) (omega (arith, before-first x y h (eqb-true x.row.0 y.row.0 e)))))
    (λ e. rw e)

-- so the first stops by then where they share none
stopped : (x y : Run) → before x y ≡ true → x.row.0 ≡ y.row.0 → overlaps x y ≡ false → stop x ≤ y.first
stopped x y h e n = ltb-false y.first (stop x) (rw (overlaps_ordered x y h, eq-eqb x.row.0 y.row.0 e) at n)

-- 14 is said of a run and any earlier one of its row
abbrev pub overlapping : List Run → ℕ → ℕ → Bool
overlapping xs j k = overlaps (run_at xs j) (run_at xs k)

-- A run further back on the same row has stopped before run k starts, if the one after it shares no unit with it: that one stands between
-- the two, so it is on their row, starts no sooner than the first stops, and k starts later still.
stopped-before : (xs : List Run) → InOrder xs → (j k : ℕ) → j + 1 < k → k < length xs → (run_at xs j).row.0 ≡ (run_at xs k).row.0
    → overlapping xs j (suc j) ≡ false → stop (run_at xs j) < (run_at xs k).first
stopped-before xs o j k l h row apart =
    let x = run_at xs j in
    let y = run_at xs (suc j) in
    let z = run_at xs k in
    let xy = order_any xs o j (suc j) (omega arith) (omega arith) in
    let yz = order_any xs o (suc j) k (omega arith) h in
    let rows : x.row.0 ≡ y.row.0 = omega (arith, before-row x y xy, before-row y z yz) in
    omega (arith, stopped x y xy rows apart, before-first y z yz (sym rows ∙ row))

-- 14: so its lowest run is found beside the forerunners
pub lowest-overlapping : (xs : List Run) → InOrder xs → lowest overlaps xs ≡ first (beside (overlapping xs)) (length xs)
unfolding beside
lowest-overlapping xs o = first-beside (overlapping xs) (length xs) further_back
  where
    further_back : (j k : ℕ) → j + 1 < k → k < length xs → Clear (beside (overlapping xs)) k → overlapping xs j k ≡ false
    further_back j k l h c =
        let x = run_at xs j in
        let z = run_at xs k in
        refuted (overlaps x z) (λ p.
        let both = sym (overlaps_ordered x z (order_any xs o j k (omega arith) h)) ∙ p in
        let row : x.row.0 ≡ z.row.0 = eqb-true x.row.0 z.row.0 (and_left (eqb x.row.0 z.row.0) _ both) in
        let soon : z.first < stop x = ltb-true z.first (stop x) (and_right (eqb x.row.0 z.row.0) _ both) in
        omega (arith, stopped-before xs o j k l h row (c (suc j) (omega arith))))

-- where it finds no run, no two of a row share a unit
pub found_apart : (xs : List Run) → length xs ≤ lowest overlaps xs → NoPair overlaps xs
found_apart xs h = lowest_none overlaps xs (le-ltb (lowest overlaps xs) (length xs) h)

-- 15 is said of a run and any earlier one of its row and duty
abbrev pub joining : List Run → ℕ → ℕ → Bool
joining xs j k = joins (run_at xs j) (run_at xs k)

-- 15, where 14 is met: none further back stops where a run starts
pub lowest-joining : (xs : List Run) → InOrder xs → NoPair overlaps xs → lowest joins xs ≡ first (beside (joining xs)) (length xs)
lowest-joining xs o apart = first-beside (joining xs) (length xs)
    (λ j k l h c. not_joins (run_at xs j) (run_at xs k)
    (λ row duty here. omega (arith, stopped-before xs o j k l h row (apart j (suc j) (omega arith) (omega arith)))))

-- ---- all three at once

-- run y stands wrong to its forerunner x, by 13, 14 or 15
abbrev pub wrong : Run → Run → Bool
wrong x y = not (before x y) || overlaps x y || joins x y

-- One look tells: on one row, whether y starts before x stops, or with x's duty where x stops; else whether its row is lower. On one row y
-- starts before x stops where it does not come after x, since x has some length, and where it shares a unit with x; and in no other case.
pub wrong-told : (x y : Run) → 1 ≤ x.length
    → wrong x y
    ≡ pick (eqb x.row.0 y.row.0) (ltb y.first (stop x) || eqb x.duty y.duty && eqb (stop x) y.first)
    (ltb y.row.0 x.row.0)
unfolding before overlaps joins meet
wrong-told x y long =
    by_cases (eqb x.row.0 y.row.0)
    (λ e. rw e (lt_or_le x.first y.first
    (λ l. rw (lt-ltb x.first y.first l, lt-ltb x.first (stop y) (omega arith)))
    (λ l. rw (le-ltb x.first y.first l, lt-ltb y.first (stop x) (omega arith)))))
    (λ e. rw e (by_order x.row.0 y.row.0
    (λ l. rw (lt-ltb x.row.0 y.row.0 l, le-ltb y.row.0 x.row.0 (omega arith)))
    (λ l. rw (le-ltb x.row.0 y.row.0 (omega arith), lt-ltb y.row.0 x.row.0 l))
    (λ q. not_both (eq-eqb x.row.0 y.row.0 q) e)))

-- the same of two runs of a list
abbrev pub wrongly : List Run → ℕ → ℕ → Bool
wrongly xs j k = wrong (run_at xs j) (run_at xs k)

-- a run that does not stand wrong does so by none of the three
pub not_misplaced : (xs : List Run) (j k : ℕ) → wrongly xs j k ≡ false → misplaced xs j k ≡ false
not_misplaced xs j k q = or_left (misplaced xs j k) _ (or_left (misplaced xs j k || overlapping xs j k) _ q)

pub not_overlapping : (xs : List Run) (j k : ℕ) → wrongly xs j k ≡ false → overlapping xs j k ≡ false
not_overlapping xs j k q = or_right (misplaced xs j k) _ (or_left (misplaced xs j k || overlapping xs j k) _ q)

pub not_joining : (xs : List Run) (j k : ℕ) → wrongly xs j k ≡ false → joining xs j k ≡ false
not_joining xs j k q = or_right (misplaced xs j k || overlapping xs j k) _ q

-- where no run stands wrong to its forerunner, none of the three finds one
pub right_rows : (xs : List Run) → Clear (beside (wrongly xs)) (length xs)
    → (first (unordered xs) (length xs) ≡ length xs) × (lowest overlaps xs ≡ length xs) × (lowest joins xs ≡ length xs)
right_rows xs c =
    (order, row, lowest-joining xs ordered (found_apart xs (omega (arith, row))) ∙ none (joining xs) (not_joining xs))
  where
    -- a rule that says no more than `wrong` finds none beside the forerunners
    none : (rule : ℕ → ℕ → Bool) → ((j k : ℕ) → wrongly xs j k ≡ false → rule j k ≡ false) → first (beside rule) (length xs) ≡ length xs
    none rule less = first_none (beside rule) (length xs) (beside-fails rule (wrongly xs) (length xs) less c)

    order : first (unordered xs) (length xs) ≡ length xs
    order = lowest-misplaced xs ∙ none (misplaced xs) (not_misplaced xs)

    ordered : InOrder xs
    ordered = ordered_clear xs (λ k l. first_clear (unordered xs) (length xs) k (omega (arith, order)))

    row : lowest overlaps xs ≡ length xs
    row = lowest-overlapping xs ordered ∙ none (overlapping xs) (not_overlapping xs)

-- The units of each duty as a loop over the runs adds them up, from the last run to the first: one run more changes the entry of its own
-- duty. A run has at most T units, so no sum passes as many times T as there may be runs.
-- Assumes nothing.
use Prim.Native.Nat.{ℕ, zero, suc, ◌+◌, ◌-◌, ◌*◌, ◌≤◌, ◌<◌}
use mathlib.Core.Path.{◌≡◌, refl, sym, ◌∙◌}
use mathlib.Core.List.{List, [], ◌∷◌}
use native.Mathlib.Numerals.{add-one}
use native.Mathlib.Omega.{arith}
use lib.Dec.{eqb}
use lib.ListN.{length, get_or, set, drop, replicate, drop_of_length-le}
use lib.Seq.{drop-cons}
use borrow.Author.Tests.{eq-eqb, ne_eqb}
use Rattle.laws.specs.Choice.{pick}
use Rattle.laws.specs.Lists.{tab}
use Rattle.laws.proofs.Cases.{by_cases}
use Rattle.laws.proofs.Lists.{get_or-tab, tab_zeros, set-tab}
use Rattle.paper.specs.declared.Run.{Run}
use Rattle.paper.specs.Words.{run, Table, run_at}
use Rattle.paper.specs.Rules.{units_of}
use Rattle.paper.specs.Limits.{small, most_duties, most_ticks}
use Rattle.paper.specs.Statements.{Ranged}

-- one run's units, and those of the runs after it
units_step : (x : Run) (xs : List Run) (i : ℕ) → units_of (x ∷ xs) i ≡ pick (eqb x.duty i) x.length 0 + units_of xs i
unfolding units_of
units_step x xs i = refl

units_further : (xs : List Run) (k i : ℕ) → k < length xs → units_of (drop k xs) i
    ≡ pick (eqb (run_at xs k).duty i) (run_at xs k).length 0 + units_of (drop (k + 1) xs) i
units_further xs k i h = rw (add-one, drop-cons xs k (run 0 0 0 0)) (units_step (run_at xs k) (drop (suc k) xs) i)

-- no run left
units_finished : (xs : List Run) (k i : ℕ) → length xs ≤ k → units_of (drop k xs) i ≡ 0
unfolding units_of
units_finished xs k i h = rw (drop_of_length-le xs h)

-- the units of the runs from k on, duty by duty
abbrev pub units_from : List Run → ℕ → List ℕ
units_from xs k = tab most_duties (λ i. units_of (drop k xs) i)

-- past the last run there are none
pub units_none : (xs : List Run) (k : ℕ) → length xs ≤ k → replicate most_duties 0 ≡ units_from xs k
units_none xs k h = tab_zeros most_duties (λ i. units_of (drop k xs) i) (λ i. units_finished xs k i h)

-- one run more, at the front
pub units_more : (xs : List Run) (k : ℕ) (x : Run) → k < length xs → x ≡ run_at xs k → x.duty < most_duties
    → set (units_from xs (k + 1)) x.duty (get_or (units_from xs (k + 1)) x.duty 0 + x.length) ≡ units_from xs k
units_more xs k x h e small =
    set-tab most_duties x.duty (get_or (units_from xs (k + 1)) x.duty 0 + x.length) (λ i. units_of (drop (k + 1) xs) i)
    (λ i. units_of (drop k xs) i) small own other
  where
    step : (i : ℕ) → units_of (drop k xs) i ≡ pick (eqb x.duty i) x.length 0 + units_of (drop (k + 1) xs) i
    step i = rw e (units_further xs k i h)

    own : get_or (units_from xs (k + 1)) x.duty 0 + x.length ≡ units_of (drop k xs) x.duty
    own =
        let at = get_or-tab most_duties (λ i. units_of (drop (k + 1) xs) i) 0 x.duty small in
        let here : units_of (drop k xs) x.duty ≡ x.length + units_of (drop (k + 1) xs) x.duty =
        step x.duty ∙ rw (eq-eqb x.duty x.duty refl) in
        omega (arith, at, here)

    other : (i : ℕ) → (i ≡ x.duty → ⊥) → units_of (drop (k + 1) xs) i ≡ units_of (drop k xs) i
    other i d = let at : units_of (drop k xs) i ≡ 0 + units_of (drop (k + 1) xs) i = step i ∙ rw (ne_eqb x.duty i (λ q. d (sym q))) in
        omega (arith, at)

-- the same for a loop that comes from k and has read run k - 1
pub units_back : (xs : List Run) {k v : ℕ} {l : List ℕ} (x : Run) → 0 < k → k ≤ length xs → x ≡ run_at xs (k - 1) → x.duty < most_duties → l
    ≡ units_from xs k
    → v ≡ get_or l x.duty 0 + x.length → set l x.duty v ≡ units_from xs (k - 1)
units_back xs {k} {v} {l} x h m e small p q =
    let z : k - 1 + 1 ≡ k = omega arith in
    rw (q, p) (rw z at (units_more xs (k - 1) x (omega arith) e small))

-- where no run has more than m units, those of a duty are at most m for each run
units_few : (m : ℕ) (xs : List Run) (i : ℕ) → ((k : ℕ) → k < length xs → (run_at xs k).length ≤ m) → units_of xs i ≤ m * length xs
unfolding units_of
units_few m [] i h = omega arith
units_few m (x ∷ xs) i h =
    let own : pick (eqb x.duty i) x.length 0 ≤ m = by_cases (eqb x.duty i) (λ q. rw q (h 0 (omega arith)))
    (λ q. rw q (omega arith)) in
    omega (arith, own, units_few m xs i (λ k l. h (suc k) (omega arith)))

-- those of the runs from k on are no more than those of all
units_fewer : (xs : List Run) (k i : ℕ) → units_of (drop k xs) i ≤ units_of xs i
unfolding units_of
units_fewer xs zero i = omega arith
units_fewer [] (suc k) i = omega arith
units_fewer (x ∷ xs) (suc k) i = omega (arith, units_fewer xs k i)

-- so an entry is bounded
pub units_bound : (m : ℕ) (xs : List Run) (k i : ℕ) → ((j : ℕ) → j < length xs → (run_at xs j).length ≤ m) → i < most_duties
    → get_or (units_from xs k) i 0 ≤ m * length xs
units_bound m xs k i h l =
    omega (arith, get_or-tab most_duties (λ j. units_of (drop k xs) j) 0 i l, units_fewer xs k i, units_few m xs i h)

-- no run of a table in range has more units than a block may have
pub units_ranged : {t : Table} → Ranged small t → (k : ℕ) → k < length t.runs → (run_at t.runs k).length ≤ most_ticks
units_ranged F k h = omega (arith, (F.run_ranged_lem k h).inside, F.ticks_most)

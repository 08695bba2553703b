-- Who holds a unit, by the runs: a run that covers it, and the run's duty.
-- `held_in` stops at the first run that covers the unit. Where no two runs of a row share a unit, any run that covers it is that one.
-- Assumes nothing.
use Prim.Native.Nat.{ℕ, zero, suc, ◌+◌, ◌≤◌, ◌<◌}
use mathlib.Core.Path.{◌≡◌, refl, sym, ◌∙◌}
use mathlib.Core.Bool.{true, false, ◌&&◌}
use mathlib.Core.List.{List, [], ◌∷◌}
use native.Mathlib.Nat.{not-suc-le-zero, le_of_suc-le-suc}
use native.Mathlib.Numerals.{add-one}
use native.Mathlib.Omega.{arith}
use lib.Dec.{leb, ltb, eqb}
use lib.ListN.{length, drop, drop_of_length-le}
use lib.Seq.{drop-cons}
use borrow.Author.Tests.{eqb-true, leb-true, ltb-true, eq-eqb, le-leb, lt-ltb}
use Rattle.laws.proofs.Cases.{by_cases, by_order, not_both, and_left, and_right, eqb_sym}
use Rattle.paper.specs.declared.Row.{Row}
use Rattle.paper.specs.declared.Run.{Run}
use Rattle.std.specs.Prelude.{None, Some}
use Rattle.paper.specs.Duties.{Held, same}
use Rattle.paper.specs.Words.{run, stop, covers, run_at, held_in}
use Rattle.paper.specs.Statements.{Has, Apart}

-- a run covers a unit of a row where it is of the row and has the unit
pub covers-row : (x : Run) (r : Row) (u : ℕ) → covers x r u ≡ true → x.row.0 ≡ r.0
unfolding covers
covers-row x r u p = eqb-true x.row.0 r.0 (and_left (eqb x.row.0 r.0) (leb x.first u) (and_left _ (ltb u (stop x)) p))

pub covers_has : (x : Run) (r : Row) (u : ℕ) → covers x r u ≡ true → Has x u
unfolding covers
covers_has x r u p =
    let from = eqb x.row.0 r.0 && leb x.first u in
    let below = ltb u (stop x) in (
      leb-true x.first u (and_right (eqb x.row.0 r.0) (leb x.first u) (and_left from below p)),
      ltb-true u (stop x)
          (and_right from below p),
    )

pub has_covers : (x : Run) (r : Row) (u : ℕ) → x.row.0 ≡ r.0 → Has x u → covers x r u ≡ true
unfolding covers
has_covers x r u e h = rw (eq-eqb x.row.0 r.0 e, le-leb x.first u h.0, lt-ltb u (stop x) h.1)

-- one step of the search for the run
pub held_yes : (x : Run) (xs : List Run) (r : Row) (u : ℕ) → covers x r u ≡ true → held_in (x ∷ xs) r u ≡ Some x.duty
unfolding held_in
held_yes x xs r u p = rw p

pub held_no : (x : Run) (xs : List Run) (r : Row) (u : ℕ) → covers x r u ≡ false → held_in (x ∷ xs) r u ≡ held_in xs r u
unfolding held_in
held_no x xs r u p = rw p

-- run k of the list covers the unit
pub record Covering (xs : List Run) (r : Row) (u k : ℕ) : Type 0 where
  pub below : k < length xs
  pub covering : covers (run_at xs k) r u ≡ true

-- another unit that the run has is covered too
pub covering_other : {xs : List Run} {r : Row} {u k : ℕ} (v : ℕ) → Covering xs r u k → Has (run_at xs k) v → Covering xs r v k
covering_other {xs} {r} {u} {k} v c h =
    record { below = c.below; covering = has_covers (run_at xs k) r v (covers-row (run_at xs k) r u c.covering) h }

-- a unit is idle, and then no run covers it, or a run covers it and its duty holds it
pub held_cases : {P : Type 0} (xs : List Run) (r : Row) (u : ℕ)
    → (held_in xs r u ≡ None → ((k : ℕ) → Covering xs r u k → ⊥) → P)
    → ((k : ℕ) → Covering xs r u k → held_in xs r u ≡ Some (run_at xs k).duty → P) → P
unfolding held_in
held_cases [] r u idle by = idle refl (λ k c. not-suc-le-zero c.below)
held_cases (x ∷ xs) r u idle by =
    by_cases (covers x r u)
    (λ p. by 0 (record { below = omega arith; covering = p }) (held_yes x xs r u p))
    (λ p. held_cases xs r u
    (λ e n. idle (held_no x xs r u p ∙ e) (λ k c. go p n k c.below c.covering))
    (λ k c e. by (suc k) (record { below = omega arith; covering = c.covering }) (held_no x xs r u p ∙ e)))
  where
    go : covers x r u ≡ false → ((k : ℕ) → Covering xs r u k → ⊥) → (k : ℕ) → k < length (x ∷ xs) → covers (run_at (x ∷ xs) k) r u ≡ true
        → ⊥
    go p n zero l q = not_both q p
    go p n (suc k) l q = n k (record { below = le_of_suc-le-suc l; covering = q })

-- no two runs of one row share a unit
abbrev pub RowsApart : List Run → Type 0
RowsApart xs = (j k : ℕ) → j < k → k < length xs → (run_at xs j).row.0 ≡ (run_at xs k).row.0 → Apart (run_at xs j) (run_at xs k)

-- then a unit has one run at most
pub covering_one : (xs : List Run) (r : Row) (u : ℕ) → RowsApart xs → (j k : ℕ) → Covering xs r u j → Covering xs r u k → j ≡ k
covering_one xs r u a j k c d =
    by_order j k (λ l. absurd (apart j k l c d)) (λ l. absurd (apart k j l d c)) (λ e. e)
  where
    apart : (j k : ℕ) → j < k → Covering xs r u j → Covering xs r u k → ⊥
    apart j k l c d =
        a j k l d.below (covers-row (run_at xs j) r u c.covering ∙ sym (covers-row (run_at xs k) r u d.covering)) u
        (covers_has (run_at xs j) r u c.covering) (covers_has (run_at xs k) r u d.covering)

-- and the duty of any run that covers a unit holds it
pub held_by : (xs : List Run) (r : Row) (u : ℕ) → RowsApart xs → (k : ℕ) → Covering xs r u k → held_in xs r u ≡ Some (run_at xs k).duty
held_by xs r u a k c =
    held_cases xs r u (λ e n. absurd (n k c)) (λ j d e. rw (covering_one xs r u a k j c d) e)

-- a row that no run is on is idle
pub held_none : (xs : List Run) (r : Row) (u : ℕ) → ((k : ℕ) → k < length xs → (run_at xs k).row.0 ≡ r.0 → ⊥) → held_in xs r u ≡ None
held_none xs r u n =
    held_cases xs r u (λ e h. e) (λ k c e. absurd (n k c.below (covers-row (run_at xs k) r u c.covering)))

-- nothing is one with idle
pub same_idle : (h : Held) → same h None ≡ false
unfolding same
same_idle None = refl
same_idle (Some i) = refl

-- one duty holds both in either order
pub same_sym : (g h : Held) → same g h ≡ same h g
unfolding same
same_sym None None = refl
same_sym None (Some j) = refl
same_sym (Some i) None = refl
same_sym (Some i) (Some j) = eqb_sym i j

-- ---- for a loop over the runs: what the runs from k on hold

pub held_from_yes : (xs : List Run) (r : Row) (u k : ℕ) → k < length xs → covers (run_at xs k) r u ≡ true → held_in (drop k xs) r u
    ≡ Some (run_at xs k).duty
held_from_yes xs r u k h p = rw (drop-cons xs k (run 0 0 0 0) h) (held_yes (run_at xs k) (drop (suc k) xs) r u p)

pub held_from_no : (xs : List Run) (r : Row) (u k : ℕ) → k < length xs → covers (run_at xs k) r u ≡ false → held_in (drop k xs) r u
    ≡ held_in (drop (k + 1) xs) r u
held_from_no xs r u k h p = rw (add-one k, drop-cons xs k (run 0 0 0 0) h) (held_no (run_at xs k) (drop (suc k) xs) r u p)

pub held_from_end : (xs : List Run) (r : Row) (u k : ℕ) → length xs ≤ k → held_in (drop k xs) r u ≡ None
unfolding held_in
held_from_end xs r u k h = rw (drop_of_length-le xs h)

-- where no run covers it the unit is idle
pub held_idle : (xs : List Run) (r : Row) (u : ℕ) → ((k : ℕ) → k < length xs → covers (run_at xs k) r u ≡ false) → held_in xs r u ≡ None
held_idle xs r u n = held_cases xs r u (λ e h. e) (λ k c e. not_both c.covering (n k c.below))

-- where a duty holds it one of the duty's runs covers it
pub held_some : (xs : List Run) (r : Row) (u i : ℕ) → held_in xs r u ≡ Some i → (k : ℕ) × Covering xs r u k × ((run_at xs k).duty ≡ i)
held_some xs r u i h = held_cases xs r u (λ e n. absurd (not_idle (sym e ∙ h))) (λ k c e. (k, c, same_duty (sym e ∙ h)))
  where
    not_idle : None ≡ Some i → ⊥
    not_idle e = let z : ◌≡◌ {A = ℕ} 0 1 = cc in omega arith

    same_duty : {a b : ℕ} → Some a ≡ Some b → a ≡ b
    same_duty e = cc

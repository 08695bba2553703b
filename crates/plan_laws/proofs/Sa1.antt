-- SA1's runs. Number the places of a plan row·T + unit. A duty's runs take the places from the sum of the earlier slices
-- on, so each run starts where its forerunner stopped; a run never leaves its row; and where a duty is split, its second
-- run starts a new row and stops before its first run's unit, since a slice is at most T.
-- Assumes nothing.
use Prim.Native.Nat.{ℕ, ◌+◌, ◌*◌, ◌-◌, ◌≤◌, ◌<◌}
use mathlib.Core.Path.{◌≡◌, refl}
use mathlib.Core.List.{List, [], ◌∷◌, ◌++◌}
use native.Mathlib.Nat.{not-suc-le-zero, lt_of_mul-lt-mul_right}
use native.Mathlib.Omega.{arith}
use lib.Dec.{leb, ltb}
use lib.ListN.{length}
use borrow.Author.Tests.{ltb-true, ltb-false, leb-true, leb-false}
use Rattle.laws.specs.Lists.{sum_of}
use Rattle.laws.proofs.Cases.{by_cases}
use Rattle.laws.proofs.Each.{Each, Pairs, each_map}
use Rattle.paper.specs.declared.Run.{Run}
use Rattle.paper.specs.Words.{run, stop}
use Rattle.paper.specs.Sa1.{lay, lay_one, row_after, unit_after}

-- a slice that is neither nothing nor more than a row
abbrev pub Slice : ℕ → ℕ → Type 0
Slice t n = (1 ≤ n) × (n ≤ t)

-- the two ways to lay a slice: it ends inside its row, or it is split. Either way the next duty starts n places on
pub lay-cases :
    (t n : ℕ) (ns : List ℕ) (i r u : ℕ) → u < t → n ≤ t → (P : List Run → Type 0)
    → ((r' u' : ℕ) → r ≤ r' → r' * t + u' ≡ r * t + u + n → u' < t → u + n ≤ t → P (run r i u n ∷ lay t ns (i + 1) r' u'))
    → ((u' : ℕ) → u' + t ≡ u + n → u' < t → t < u + n → P (run r i u (t - u) ∷ run (r + 1) i 0 u' ∷ lay t ns (i + 1) (r + 1) u'))
    → P (lay t (n ∷ ns) i r u)
unfolding lay lay_one row_after unit_after
lay-cases t n ns i r u a b P fits splits =
    by_cases (leb (u + n) t)
    (λ p. by_cases (ltb (u + n) t)
    (λ q. rw (p, q) (fits r (u + n) (omega arith) (omega arith) (omega (arith, ltb-true)) (omega (arith, leb-true))))
    (λ q. rw (p, q) (fits (r + 1) (u + n - t) (omega arith) (omega (arith, leb-true, ltb-false)) (omega (arith, leb-true, ltb-false))
    (omega (arith, leb-true)))))
    (λ p. by_cases (ltb (u + n) t) (λ q. absurd (omega (arith, leb-false, ltb-true)))
    (λ q. rw (p, q) (splits (u + n - t) (omega (arith, leb-false)) (omega (arith, leb-false)) (omega (arith, leb-false)))))

-- a run of duties i to j - 1, inside its row and between the places lo and hi
pub record Between (t i j lo hi : ℕ) (x : Run) : Type 0 where
  pub duty_least : i ≤ x.duty
  pub duty_below : x.duty < j
  pub some_units : 1 ≤ x.length
  pub inside : stop x ≤ t
  pub start : lo ≤ x.row.0 * t + x.first
  pub finish : x.row.0 * t + stop x ≤ hi

-- y is laid after x; if they are one duty's, y is on a later row and stops before x starts
pub record Follows (t : ℕ) (x y : Run) : Type 0 where
  pub after : x.row.0 * t + stop x ≤ y.row.0 * t + y.first
  pub split : x.duty ≡ y.duty → (x.row.0 < y.row.0) × (stop y ≤ x.first)

-- x is one of the runs of slices laid from row r and unit u on, the first of them duty i's: between their start and their end
abbrev pub Of : (t : ℕ) → List ℕ → (i r u : ℕ) → Run → Type 0
Of t ns i r u = Between t i (i + length ns) (r * t + u) (r * t + u + sum_of ns)

-- each run is inside its row, has a unit, and stands between the place where the first slice starts and that where the last stops
pub laid_between : (t : ℕ) (ns : List ℕ) (i r u : ℕ) → u < t → Each (Slice t) ns → Each (Of t ns i r u) (lay t ns i r u)
unfolding lay sum_of
laid_between t [] i r u a h = tt
laid_between t (n ∷ ns) i r u a h =
    lay-cases t n ns i r u a h.0.1 (Each (Of t (n ∷ ns) i r u))
    (λ r' u' b e c d. (omega arith, rest r' u' e (laid_between t ns (i + 1) r' u' c h.1)))
    (λ u' e c d. (omega arith, (omega arith, rest (r + 1) u' (omega arith) (laid_between t ns (i + 1) (r + 1) u' c h.1))))
  where
    rest : (r' u' : ℕ) → r' * t + u' ≡ r * t + u + n → Each (Of t ns (i + 1) r' u') (lay t ns (i + 1) r' u')
        → Each (Of t (n ∷ ns) i r u) (lay t ns (i + 1) r' u')
    rest r' u' e l = each_map (Of t ns (i + 1) r' u') (Of t (n ∷ ns) i r u) (λ x k. omega arith) (lay t ns (i + 1) r' u') l

-- each run follows all runs before it
pub follows : (t : ℕ) (ns : List ℕ) (i r u : ℕ) → u < t → Each (Slice t) ns → Pairs (Follows t) (lay t ns i r u)
unfolding lay sum_of
follows t [] i r u a h = tt
follows t (n ∷ ns) i r u a h =
    lay-cases t n ns i r u a h.0.1 (Pairs (Follows t))
    (λ r' u' b e c d. (ahead r u n r' u' c (omega arith), follows t ns (i + 1) r' u' c h.1))
    (λ u' e c d. (
      (record { after = omega arith; split = λ s. omega arith }, ahead r u (t - u) (r + 1) u' c (omega arith)),
      (ahead (r + 1) 0 u' (r + 1) u' c (omega arith), follows t ns (i + 1) (r + 1) u' c h.1),
    ))
  where
    ahead : (r₁ u₁ l r' u' : ℕ) → u' < t → r₁ * t + u₁ + l ≤ r' * t + u' → Each (Follows t (run r₁ i u₁ l)) (lay t ns (i + 1) r' u')
    ahead r₁ u₁ l r' u' c e = each_map (Of t ns (i + 1) r' u') (Follows t (run r₁ i u₁ l))
        (λ x k. record { after = omega arith; split = λ s. omega arith }) (lay t ns (i + 1) r' u')
        (laid_between t ns (i + 1) r' u' c h.1)

-- at most one run more than duties for each row but the first
pub few_runs :
    (t m : ℕ) (ns : List ℕ) (i r u : ℕ) → u < t → Each (Slice t) ns → 1 ≤ length ns → r * t + u + sum_of ns ≤ m * t
    → length (lay t ns i r u) + r + 1 ≤ length ns + m
unfolding sum_of lay
few_runs t m [] i r u a h s z = absurd (not-suc-le-zero s)
few_runs t m (n ∷ []) i r u a h s z =
    lay-cases t n [] i r u a h.0.1 (λ xs. length xs + r + 1 ≤ 1 + m)
    (λ r' u' b e c d. let k : r < m = lt_of_mul-lt-mul_right t (omega arith) in omega arith)
    (λ u' e c d. let k : r + 1 < m = lt_of_mul-lt-mul_right t (omega arith) in omega arith)
few_runs t m (n ∷ (n' ∷ ns)) i r u a h s z =
    lay-cases t n (n' ∷ ns) i r u a h.0.1 (λ xs. length xs + r + 1 ≤ length (n ∷ n' ∷ ns) + m)
    (λ r' u' b e c d. omega (arith, few_runs t m (n' ∷ ns) (i + 1) r' u' c h.1 (omega arith) (omega arith)))
    (λ u' e c d. omega (arith, few_runs t m (n' ∷ ns) (i + 1) (r + 1) u' c h.1 (omega arith) (omega arith)))

-- ---- slice by slice: one, then the others from the place after it

pub lay_step :
    (t n : ℕ) (ns : List ℕ) (i r u : ℕ)
    → lay t (n ∷ ns) i r u ≡ lay_one t n i r u ++ lay t ns (i + 1) (row_after t n r u) (unit_after t n u)
unfolding lay
lay_step t n ns i r u = refl

pub lay_end : (t i r u : ℕ) → lay t [] i r u ≡ []
unfolding lay
lay_end t i r u = refl

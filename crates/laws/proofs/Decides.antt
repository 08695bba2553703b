-- A test that decides a condition holds where the condition does and fails where it does not. A search for the lowest number that fails
-- the test then finds the lowest without the condition, or none where all have it.
-- Assumes nothing.
use Prim.Native.Nat.{ℕ, ◌+◌, ◌%◌, ◌≤◌, ◌<◌, ◌∣◌}
use mathlib.Core.Path.{◌≡◌, ap}
use mathlib.Core.Bool.{Bool, true, false, not, ◌&&◌}
use mathlib.Core.Logic.{◌↔◌}
use native.Mathlib.Nat.{dvd_of_mod-eq-zero, mod-eq-zero_of_dvd}
use lib.Dec.{leb, ltb, eqb}
use borrow.Author.Tests.{leb-true, ltb-true, eqb-true, le-leb, lt-ltb, eq-eqb, not-true, not-false}
use Rattle.laws.specs.Search.{first}
use Rattle.laws.specs.Divisor.{divides}
use Rattle.laws.proofs.Cases.{not_both, refuted, and_left, and_right, and_both}
use Rattle.laws.proofs.Search.{first_is, first_clear, first_holds, none_clear, clear_none}

-- the test holds exactly where P does
abbrev pub Decides : Bool → Type 0 → Type 0
Decides b P = (b ≡ true) ↔ P

-- not P
abbrev pub Not : Type 0 → Type 0
Not P = P → ⊥

-- it fails only where P does not hold, ..
pub fails : {P : Type 0} (b : Bool) → Decides b P → b ≡ false → Not P
fails b d e x = not_both (d.1 x) e

-- .. and there it fails
pub failed : {P : Type 0} (b : Bool) → Decides b P → Not P → b ≡ false
failed b d n = refuted b (λ h. n (d.0 h))

-- the test of an equation
pub eqb_decides : (a b : ℕ) → Decides (eqb a b) (a ≡ b)
eqb_decides a b = (eqb-true a b, eq-eqb a b)

-- the test whether a number divides another
pub divides_decides : (a b : ℕ) → Decides (divides a b) (a ∣ b)
divides_decides a b = ((λ h. dvd_of_mod-eq-zero a (eqb-true (b % a) 0 h)), (λ d. eq-eqb (b % a) 0 (mod-eq-zero_of_dvd a d)))

-- the stretch of l places from a on has the place u
abbrev pub spans : (a l u : ℕ) → Bool
spans a l u = leb a u && ltb u (a + l)

pub spans_decides : (a l u : ℕ) → Decides (spans a l u) ((a ≤ u) × (u < a + l))
spans_decides a l u = (
  (λ h. (leb-true a u (and_left (leb a u) (ltb u (a + l)) h), ltb-true u (a + l) (and_right (leb a u) (ltb u (a + l)) h))),
  (λ h. and_both (leb a u) (ltb u (a + l)) (le-leb a u h.0) (lt-ltb u (a + l) h.1)),
)

pub spans_not : (a l u : ℕ) → Not ((a ≤ u) × (u < a + l)) → spans a l u ≡ false
spans_not a l u n = failed (spans a l u) (spans_decides a l u) n

-- p is the lowest of the numbers below n that has not P
abbrev pub Lowest : (ℕ → Type 0) → ℕ → ℕ → Type 0
Lowest P n p = (p < n) × ((i : ℕ) → i < p → P i) × Not (P p)

module _ {test : ℕ → Bool} {P : ℕ → Type 0} (d : (i : ℕ) → Decides (test i) (P i)) (n : ℕ) where
  -- what the search finds is the lowest without P
  pub lowest_found : ltb (first (λ i. not (test i)) n) n ≡ true → Lowest P n (first (λ i. not (test i)) n)
  lowest_found h =
      let p = first (λ i. not (test i)) n in
      let l = ltb-true p n h in (
        l,
        λ i k. (d i).0 (not-false (test i) (first_clear (λ j. not (test j)) n i k)),
        fails (test p) (d p) (not-true (test p) (first_holds (λ j. not (test j)) n l)),
      )

  -- and that is what it finds
  pub found_lowest : (p : ℕ) → Lowest P n p → first (λ i. not (test i)) n ≡ p
  found_lowest p l = first_is (λ i. not (test i)) n p l.0 (λ i k. ap not ((d i).1 (l.1 i k))) (ap not (failed (test p) (d p) l.2))

  -- it finds none exactly where all have P
  pub none_found : (ltb (first (λ i. not (test i)) n) n ≡ false) ↔ ((i : ℕ) → i < n → P i)
  none_found = (
    (λ h i l. (d i).0 (not-false (test i) (none_clear (λ j. not (test j)) n h i l))),
    (λ h. clear_none (λ i. not (test i)) n (λ i l. ap not ((d i).1 (h i l)))),
  )

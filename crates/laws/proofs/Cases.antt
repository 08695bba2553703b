-- A Bool, a test or an order taken apart, with what is then known.
-- Assumes nothing.
use Prim.Native.Nat.{ℕ, ◌≤◌, ◌<◌}
use mathlib.Core.Path.{◌≡◌, refl, sym, ap, ◌∙◌}
use mathlib.Core.Bool.{Bool, true, false, ◌&&◌, ◌||◌}
use native.Mathlib.Nat.{le_antisymm}
use native.Mathlib.Omega.{arith}
use lib.Dec.{ltb, eqb}
use borrow.Author.Tests.{ltb-true, ltb-false, eqb-true, eq-eqb}

-- a Bool with its equation
pub by_cases : {P : Type 0} (b : Bool) → (b ≡ true → P) → (b ≡ false → P) → P
by_cases true f g = f refl
by_cases false f g = g refl

-- one number is below the other, or not
pub lt_or_le : {P : Type 0} (a b : ℕ) → (a < b → P) → (b ≤ a → P) → P
lt_or_le a b f g = by_cases (ltb a b) (λ p. f (ltb-true a b p)) (λ p. g (ltb-false a b p))

-- one number is below the other, above it or the same
pub by_order : {P : Type 0} (a b : ℕ) → (a < b → P) → (b < a → P) → (a ≡ b → P) → P
by_order a b f g h = lt_or_le a b f (λ l. lt_or_le b a g (λ m. h (le_antisymm m l)))

-- a Bool is not both
pub not_both : {P : Type 0} {b : Bool} → b ≡ true → b ≡ false → P
not_both p q = let z : ◌≡◌ {A = ℕ} 0 1 = cc in absurd (omega arith)

-- a test that cannot hold fails
pub refuted : (b : Bool) → (b ≡ true → ⊥) → b ≡ false
refuted true n = absurd (n refl)
refuted false n = refl

-- the two halves of a Bool `&&`, and the whole of its halves
pub and_left : (a b : Bool) → a && b ≡ true → a ≡ true
and_left true b h = refl
and_left false b h = h

pub and_right : (a b : Bool) → a && b ≡ true → b ≡ true
and_right true b h = h
and_right false b h = not_both h refl

pub and_both : (a b : Bool) → a ≡ true → b ≡ true → a && b ≡ true
and_both a b p q = rw (p, q)

-- where a Bool `||` fails, both halves do
pub or_left : (a b : Bool) → a || b ≡ false → a ≡ false
or_left true b h = h
or_left false b h = refl

pub or_right : (a b : Bool) → a || b ≡ false → b ≡ false
or_right true b h = not_both refl h
or_right false b h = h

-- tests that each hold where the other does are one
pub both_ways : (a b : Bool) → (a ≡ true → b ≡ true) → (b ≡ true → a ≡ true) → a ≡ b
both_ways true b f g = sym (f refl)
both_ways false b f g = sym (refuted b (λ p. not_both (g p) refl))

-- the test of an equation is that of the equation turned round
pub eqb_sym : (i j : ℕ) → eqb i j ≡ eqb j i
eqb_sym i j = both_ways (eqb i j) (eqb j i) (λ p. eq-eqb j i (sym (eqb-true i j p))) (λ p. eq-eqb i j (sym (eqb-true j i p)))

-- a function with a way back takes no two things to one
pub one_to_one : {A B : Type 0} (f : A → B) (back : B → A) → ((x : A) → back (f x) ≡ x) → {x y : A} → f x ≡ f y → x ≡ y
one_to_one f back h {x} {y} e = sym (h x) ∙ ap back e ∙ h y

-- The library's first place of a byte, and its equality of two lists, say what the definitions' search and comparison do.
-- Assumes nothing.
use Prim.Native.Nat.{ℕ}
use mathlib.Core.Path.{◌≡◌, refl, ap}
use mathlib.Core.Bool.{Bool, ◌&&◌}
use mathlib.Core.List.{List, [], ◌∷◌}
use native.Mathlib.Nat.{le_antisymm}
use native.Mathlib.Omega.{arith}
use lib.Dec.{eqb, ltb}
use lib.ListN.{length, get_or}
use lib.Pointwise.{pointwise}
use borrow.Author.Tests.{ltb-false}
use Rattle.std.specs.List.{position_or_len, position}
use Rattle.std.specs.Option.{unwrap_or}
use Rattle.laws.specs.Search.{first}
use Rattle.laws.specs.Lists.{same_list}
use Rattle.laws.proofs.Cases.{by_cases}
use Rattle.laws.proofs.Search.{first-le}

place_is : (x : ℕ) (b : List ℕ) → position_or_len (λ y. eqb y x) b ≡ first (λ k. eqb (get_or b k 0) x) (length b)
unfolding first
place_is x [] = refl
place_is x (y ∷ ys) =
    by_cases (eqb y x) (λ h. rw (h, first) refl) (λ h. rw (h, first) (omega (arith, place_is x ys)))

-- the place, or the length where there is none
pub place_or_length : (x : ℕ) (b : List ℕ)
    → unwrap_or (position (λ y. eqb y x) b) (length b) ≡ first (λ k. eqb (get_or b k 0) x) (length b)
place_or_length x b =
    rw (place_is x b)
    (by_cases (ltb (first (λ k. eqb (get_or b k 0) x) (length b)) (length b)) (λ h. rw h refl)
    (λ h. rw h (le_antisymm (ltb-false _ _ h) (first-le _ _))))

pub pointwise_same : (a b : List ℕ) → pointwise eqb a b ≡ same_list a b
unfolding same_list
pointwise_same [] [] = refl
pointwise_same [] (y ∷ ys) = refl
pointwise_same (x ∷ xs) [] = refl
pointwise_same (x ∷ xs) (y ∷ ys) = ap (λ (t : Bool). eqb x y && t) (pointwise_same xs ys)

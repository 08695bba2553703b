-- What holds of every entry of a list, and of every entry with each later one: said by recursion on the list, which is
-- how a list that is made step by step is shown to have it, and by index, which is how it is used.
-- Assumes nothing.
use Prim.Native.Nat.{ℕ, zero, suc, ◌<◌}
use mathlib.Core.List.{List, [], ◌∷◌, ◌++◌, map}
use native.Mathlib.Nat.{not-suc-le-zero, le_of_suc-le-suc}
use native.Mathlib.Omega.{arith}
use lib.ListN.{length, get_or}
pub use Rattle.laws.specs.Lists.{Each}

-- every entry is in R to each later one
abbrev pub Pairs : {A : Type 0} → (A → A → Type 0) → List A → Type 0
Pairs R [] = Unit
Pairs R (x ∷ xs) = Each (R x) xs × Pairs R xs

-- of two lists one after the other
pub each_append : {A : Type 0} (P : A → Type 0) (xs ys : List A) → Each P xs → Each P ys → Each P (xs ++ ys)
each_append P [] ys h k = k
each_append P (x ∷ xs) ys h k = (h.0, each_append P xs ys h.1 k)

-- what follows from P holds of each entry too
pub each_map : {A : Type 0} (P Q : A → Type 0) → ((x : A) → P x → Q x) → (xs : List A) → Each P xs → Each Q xs
each_map P Q f [] h = tt
each_map P Q f (x ∷ xs) h = (f x h.0, each_map P Q f xs h.1)

-- by index
pub each_at : {A : Type 0} (P : A → Type 0) (d : A) (xs : List A) → Each P xs → (k : ℕ) → k < length xs → P (get_or xs k d)
each_at P d [] h k l = absurd (not-suc-le-zero l)
each_at P d (x ∷ xs) h zero l = h.0
each_at P d (x ∷ xs) h (suc k) l = each_at P d xs h.1 k (le_of_suc-le-suc l)

-- and back
pub at_each : {A : Type 0} (P : A → Type 0) (d : A) (xs : List A) → ((k : ℕ) → k < length xs → P (get_or xs k d)) → Each P xs
at_each P d [] h = tt
at_each P d (x ∷ xs) h = (h zero (omega arith), at_each P d xs (λ k l. h (suc k) (omega arith)))

-- the entries made by f have P where the others have P of f
pub each_of_map : {A B : Type 0} (P : B → Type 0) (f : A → B) (xs : List A) → Each (λ x. P (f x)) xs → Each P (map f xs)
each_of_map P f [] h = tt
each_of_map P f (x ∷ xs) h = (h.0, each_of_map P f xs h.1)

-- an entry with a later one, by index
pub pairs_at : {A : Type 0} (R : A → A → Type 0) (d : A) (xs : List A) → Pairs R xs → (j k : ℕ) → j < k → k < length xs
    → R (get_or xs j d) (get_or xs k d)
pairs_at R d [] h j k a b = absurd (not-suc-le-zero b)
pairs_at R d (x ∷ xs) h j zero a b = absurd (not-suc-le-zero a)
pairs_at R d (x ∷ xs) h zero (suc k) a b = each_at (R x) d xs h.0 k (le_of_suc-le-suc b)
pairs_at R d (x ∷ xs) h (suc j) (suc k) a b = pairs_at R d xs h.1 j k (le_of_suc-le-suc a) (le_of_suc-le-suc b)

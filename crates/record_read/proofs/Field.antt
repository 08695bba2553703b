-- A field of n bytes laid over four zeros: the four bytes read as one number are the field's number, for what is past it counts nothing.
-- Assumes nothing.
use Rattle.std.proofs.Common.{ℕ, zero, suc, ◌+◌, ◌^◌, ◌-◌, ◌<◌, ◌≤◌, ◌≡◌, ◌∙◌, refl, List, [], ◌∷◌, ◌++◌, length, get_or, take, drop, arith}
use Rattle.std.proofs.Common.{add_assoc, add-zero}
use Rattle.std.specs.Int.{w32, from_le_bytes}
use Rattle.std.proofs.lemmas.List.{get_or_append_left, get_or-append_right, get_or-take, get_or-drop}
use Rattle.laws.specs.Digits.{num_at}

-- a number of k bytes is below 256^k
pub num_at_below : (k : ℕ) (b : List ℕ) (at : ℕ) → ((i : ℕ) → get_or b i 0 < 256) → num_at k b at < 256 ^ k
unfolding num_at
num_at_below zero b at h = omega arith
num_at_below (suc k) b at h = omega (arith, h at, num_at_below k b (at + 1) h)

-- read in what is left from a place on
num_at-drop : (k : ℕ) (b : List ℕ) (at i : ℕ) → num_at k (drop at b) i ≡ num_at k b (at + i)
unfolding num_at
num_at-drop zero b at i = refl
num_at-drop (suc k) b at i = rw (get_or-drop at b i 0, num_at-drop k b at (i + 1), add_assoc at i 1) refl

abbrev zeros : List ℕ
zeros = 0 ∷ 0 ∷ 0 ∷ 0 ∷ []

zero_at : (i : ℕ) → get_or zeros i 0 ≡ 0
zero_at zero = refl
zero_at (suc zero) = refl
zero_at (suc (suc zero)) = refl
zero_at (suc (suc (suc zero))) = refl
zero_at (suc (suc (suc (suc i)))) = refl

-- four bytes of which the first n are those of b, and the others 0
module _ (b f : List ℕ) where
  bytes_number : (n : ℕ) → n ≤ 4 → ((i : ℕ) → i < n → get_or f i 0 ≡ get_or b i 0) → ((i : ℕ) → n ≤ i → get_or f i 0 ≡ 0)
      → from_le_bytes w32 f ≡ num_at n b 0
  unfolding num_at
  bytes_number zero h y z = omega (arith, z 0 (omega arith), z 1 (omega arith), z 2 (omega arith), z 3 (omega arith))
  bytes_number (suc zero) h y z = omega (arith, y 0 (omega arith), z 1 (omega arith), z 2 (omega arith), z 3 (omega arith))
  bytes_number (suc (suc zero)) h y z = omega (arith, y 0 (omega arith), y 1 (omega arith), z 2 (omega arith), z 3 (omega arith))
  bytes_number (suc (suc (suc zero))) h y z = omega (arith, y 0 (omega arith), y 1 (omega arith), y 2 (omega arith), z 3 (omega arith))
  bytes_number (suc (suc (suc (suc zero)))) h y z =
      omega (arith, y 0 (omega arith), y 1 (omega arith), y 2 (omega arith), y 3 (omega arith))
  bytes_number (suc (suc (suc (suc (suc n))))) h y z = absurd (omega (arith, h))

pub field_number : (n : ℕ) (b part : List ℕ) (at : ℕ) → n ≤ 4 → length part ≡ n → part ≡ take n (drop at b)
    → from_le_bytes w32 (part ++ drop n zeros) ≡ num_at n b at
field_number n b part at h long is = bytes_number (drop at b) (part ++ drop n zeros) n h there past ∙ rw add-zero at (num_at-drop n b at 0)
  where
    there : (i : ℕ) → i < n → get_or (part ++ drop n zeros) i 0 ≡ get_or (drop at b) i 0
    there i l = get_or_append_left part _ 0 i (omega arith) ∙ rw is (get_or-take n (drop at b) i 0 l)

    past : (i : ℕ) → n ≤ i → get_or (part ++ drop n zeros) i 0 ≡ 0
    past i l = get_or-append_right part (drop n zeros) n i 0 long l ∙ get_or-drop n zeros (i - n) 0 ∙ zero_at (n + (i - n))

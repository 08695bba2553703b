-- Numbers as digits. A loop over the digits goes by what is left of them. What it has so far is never more than the whole
-- value, and n digits after v stay below v + 1 and n zeros: so with nine digits every number on the way fits.
-- Assumes nothing.
use Prim.Native.Nat.{ℕ, zero, suc, ◌+◌, ◌-◌, ◌*◌, ◌^◌, ◌≤◌, ◌<◌}
use mathlib.Core.Path.{◌≡◌, refl, sym, ap, ◌∙◌}
use mathlib.Core.Bool.{Bool, true, not, ◌&&◌, ◌||◌}
use mathlib.Core.List.{List, [], ◌∷◌}
use native.Mathlib.Nat.{not-suc-le-zero, le_of_suc-le-suc, pow-suc, mul-le-mul_right, pow-le-pow_right}
use native.Mathlib.Numerals.{add-one}
use native.Mathlib.Omega.{arith}
use lib.Dec.{leb, eqb}
use lib.ListN.{length, get_or, drop, drop_of_length-le}
use lib.Seq.{drop-cons}
use borrow.Author.Tests.{le-leb}
use Rattle.std.specs.List.{list_all}
use Rattle.std.specs.Char.{is_ascii_digit}
use Rattle.laws.proofs.Cases.{and_left, and_right}
use Rattle.paper.specs.Limits.{most_digits}
use Rattle.paper.specs.Bytes.{within}
use Rattle.paper.specs.Text.{all_digits, is_number, value_from, value}
use Rattle.paper.proofs.Passed.{within-told}

-- whether bytes are digits, and the number that they write: by the first of them, and for none
digits-first : (x : ℕ) (xs : List ℕ) → all_digits (x ∷ xs) ≡ within 48 57 x && all_digits xs
unfolding all_digits
digits-first x xs = refl

value-first : (v x : ℕ) (xs : List ℕ) → value_from v (x ∷ xs) ≡ value_from (v * 10 + (x - 48)) xs
unfolding value_from
value-first v x xs = refl

value_none : (v : ℕ) → value_from v [] ≡ v
unfolding value_from
value_none v = refl

-- the library's word for a test of every element says the same
pub all_are_digits : (c : List ℕ) → list_all is_ascii_digit c ≡ all_digits c
unfolding all_digits
all_are_digits [] = refl
all_are_digits (x ∷ xs) = ap (λ (t : Bool). is_ascii_digit x && t) (all_are_digits xs)

-- what is left of a number, one digit further and at the end
pub value_step : (v : ℕ) (c : List ℕ) (i : ℕ) → i < length c
    → value_from v (drop i c) ≡ value_from (v * 10 + (get_or c i 0 - 48)) (drop (i + 1) c)
value_step v c i h = rw (add-one, drop-cons c i 0 h) (value-first v (get_or c i 0) (drop (suc i) c))

pub value_end : (v : ℕ) (c : List ℕ) (i : ℕ) → length c ≤ i → value_from v (drop i c) ≡ v
value_end v c i h = rw (drop_of_length-le c h) (value_none v)

-- more digits do not make it less
value_least : (c : List ℕ) (v : ℕ) → v ≤ value_from v c
value_least [] v = omega (arith, value_none v)
value_least (x ∷ xs) v = omega (arith, value-first v x xs, value_least xs (v * 10 + (x - 48)))

-- among digits the first is one, and so are the others
digits_split : (x : ℕ) (xs : List ℕ) → all_digits (x ∷ xs) ≡ true → (within 48 57 x ≡ true) × (all_digits xs ≡ true)
digits_split x xs p =
    let both = sym (digits-first x xs) ∙ p in
    (and_left (within 48 57 x) (all_digits xs) both, and_right (within 48 57 x) (all_digits xs) both)

-- a byte among digits is one
pub digit_at : (c : List ℕ) (i : ℕ) → all_digits c ≡ true → i < length c → (48 ≤ get_or c i 0) × (get_or c i 0 ≤ 57)
digit_at [] i p h = absurd (not-suc-le-zero h)
digit_at (x ∷ xs) zero p h = within-told 48 57 x (digits_split x xs p).0
digit_at (x ∷ xs) (suc i) p h = digit_at xs i (digits_split x xs p).1 (le_of_suc-le-suc h)

-- n digits after v stay below v + 1 and n zeros
value_below : (c : List ℕ) (v : ℕ) → all_digits c ≡ true → value_from v c < suc v * 10 ^ length c
value_below [] v p = omega (arith, value_none v)
value_below (x ∷ xs) v p =
    let d = digit_at (x ∷ xs) 0 p (omega arith) in
    let r = value_below xs (v * 10 + (x - 48)) (digits_split x xs p).1 in
    let le : suc (v * 10 + (x - 48)) ≤ suc v * 10 = omega arith in
    rw pow-suc (omega (arith, value-first v x xs, r, mul-le-mul_right (10 ^ length xs) le))

-- a number is nine digits at the most ..
pub number_digits : (c : List ℕ) → is_number c ≡ true → (length c ≤ most_digits) × (all_digits c ≡ true)
number_digits c p =
    let many = within 1 most_digits (length c) in
    let q = and_left (many && all_digits c) (eqb (length c) 1 || not (eqb (get_or c 0 0) 48)) p in
    ((within-told 1 most_digits (length c) (and_left many (all_digits c) q)).1, and_right many (all_digits c) q)

-- .. so below 1,000,000,000 ..
number_below : (c : List ℕ) → is_number c ≡ true → value c < 10 ^ most_digits
number_below c p =
    let d = number_digits c p in
    omega (arith, value_below c 0 d.1, pow-le-pow_right {n = 10} (omega arith) {i = length c} {j = most_digits} d.0)

-- .. and every value on the way too
pub next_below : (v : ℕ) (c : List ℕ) (i : ℕ) → is_number c ≡ true → i < length c → value_from v (drop i c) ≡ value c
    → v * 10 + (get_or c i 0 - 48) < 10 ^ most_digits
next_below v c i p h e =
    omega (arith, number_below c p, value_step v c i h, value_least (drop (i + 1) c) (v * 10 + (get_or c i 0 - 48)))

-- where there are some, all but one of the tests are left
pub number_some : (c : List ℕ) → 1 ≤ length c
    → is_number c ≡ leb (length c) most_digits && all_digits c && (eqb (length c) 1 || not (eqb (get_or c 0 0) 48))
number_some c h = rw (le-leb 1 (length c) h)

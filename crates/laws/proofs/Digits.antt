-- Numbers as bytes and back. The k bytes of a number below 256^k read as that number, wherever they stand, and the number
-- in k bytes has those bytes: each step splits off the lowest byte by the remainder and the quotient by 256.
-- Assumes nothing.
use Prim.Native.Nat.{ℕ, zero, suc, ◌+◌, ◌*◌, ◌-◌, ◌/◌, ◌%◌, ◌^◌, ◌≤◌, ◌<◌}
use mathlib.Core.Path.{◌≡◌, refl, ap, ◌∙◌}
use mathlib.Core.List.{List, [], ◌∷◌, ◌++◌}
use native.Mathlib.Nat.{not-suc-le-zero, le_of_suc-le-suc, add_assoc, pow-suc, mod-lt, mod-eq_of_lt, div-lt_iff_lt-mul}
use native.Mathlib.Nat.{add-mul-mod_self_left}
use native.Mathlib.Numerals.{add-one}
use native.Mathlib.Omega.{arith}
use lib.ListN.{length, get_or, take, drop, get_or-eq_default, get_or-append}
use lib.Seq.{get_or-append-add, drop-cons}
use Rattle.laws.specs.Lists.{flat}
use Rattle.laws.specs.Digits.{digits, num_at}
use Rattle.laws.proofs.Cases.{lt_or_le}

-- without its last digit, to any base, a number has one digit less
pub quotient_below : (b k n : ℕ) → 0 < b → n < b ^ suc k → n / b < b ^ k
quotient_below b k n p h = (div-lt_iff_lt-mul {k = b} p).1 (rw pow-suc at h)

-- every entry is a byte
abbrev pub AreBytes : List ℕ → Type 0
AreBytes b = (k : ℕ) → k < length b → get_or b k 0 < 256

-- past the end too
pub byte_below : (b : List ℕ) → AreBytes b → (k : ℕ) → get_or b k 0 < 256
byte_below b h k = lt_or_le k (length b) (h k) (λ l. rw (get_or-eq_default b 0 l) (omega arith))

-- a number has as many bytes as asked for
pub length_digits : (k v : ℕ) → length (digits k v) ≡ k
unfolding digits
length_digits zero v = refl
length_digits (suc k) v = ap suc (length_digits k (v / 256))

-- what is written are bytes
pub digits_bytes : (k v : ℕ) → AreBytes (digits k v)
unfolding digits
digits_bytes zero v j h = absurd (not-suc-le-zero h)
digits_bytes (suc k) v zero h = mod-lt v {m = 256} (omega arith)
digits_bytes (suc k) v (suc j) h = digits_bytes k (v / 256) j (le_of_suc-le-suc h)

-- a field is read the same where something stands before it
pub num_at_after : (k : ℕ) (pre b : List ℕ) (at : ℕ) → num_at k (pre ++ b) (length pre + at) ≡ num_at k b at
unfolding num_at
num_at_after zero pre b at = refl
num_at_after (suc k) pre b at = rw (get_or-append-add, add_assoc, num_at_after k pre b (at + 1))

-- written and read again
pub num_at-digits : (k v : ℕ) (rest : List ℕ) → v < 256 ^ k → num_at k (digits k v ++ rest) 0 ≡ v
unfolding digits num_at
num_at-digits zero v rest h = omega arith
num_at-digits (suc k) v rest h =
    omega (
      arith,
      num_at_after k (v % 256 ∷ []) (digits k (v / 256) ++ rest) 0,
      num_at-digits k (v / 256) rest
          (quotient_below 256 k v (omega arith) h),
    )

-- read and written again
pub digits-num_at : (k : ℕ) (b : List ℕ) (at : ℕ) → AreBytes b → at + k ≤ length b → digits k (num_at k b at) ≡ take k (drop at b)
unfolding digits num_at
digits-num_at zero b at h l = refl
digits-num_at (suc k) b at h l =
    let low : (get_or b at 0 + 256 * num_at k b (at + 1)) % 256 ≡ get_or b at 0 =
    add-mul-mod_self_left (get_or b at 0) 256 (num_at k b (at + 1)) ∙ mod-eq_of_lt (byte_below b h at) in
    let high : (get_or b at 0 + 256 * num_at k b (at + 1)) / 256 ≡ num_at k b (at + 1) = omega (arith, byte_below b h at) in
    rw (drop-cons b at 0 (omega arith), low, high, digits-num_at k b (at + 1) h (omega arith), add-one)

-- ---- lists made of bytes

-- two lists of bytes one after the other are one
pub bytes_append : (p q : List ℕ) → AreBytes p → AreBytes q → AreBytes (p ++ q)
bytes_append p q y z k h =
    lt_or_le k (length p) (λ l. rw (get_or-append p q 0 k l) (y k l))
    (λ l.
    let e : k ≡ length p + (k - length p) = omega arith in
    rw (e, get_or-append-add p q (k - length p) 0) (byte_below q z (k - length p)))

-- one byte
pub bytes_one : (x : ℕ) → x < 256 → AreBytes (x ∷ [])
bytes_one x h zero l = h
bytes_one x h (suc k) l = absurd (not-suc-le-zero (le_of_suc-le-suc l))

-- a number's bytes after a list of bytes
pub bytes_field : (p : List ℕ) (k v : ℕ) → AreBytes p → AreBytes (p ++ digits k v)
bytes_field p k v y = bytes_append p (digits k v) y (digits_bytes k v)

-- records of bytes one after the other
pub bytes_flat : {A : Type 0} (f : A → List ℕ) → ((x : A) → AreBytes (f x)) → (xs : List A) → AreBytes (flat f xs)
unfolding flat
bytes_flat f y [] = λ k h. absurd (not-suc-le-zero h)
bytes_flat f y (x ∷ xs) = bytes_append (f x) (flat f xs) (y x) (bytes_flat f y xs)

-- ---- a field written byte by byte

-- while i is below its width, one byte of what is left of the number is next, and then what is left of the field; at its end nothing is
pub digits_left : (width i v : ℕ) → i < width → digits (width - i) v ≡ v % 256 ∷ digits (width - (i + 1)) (v / 256)
unfolding digits
digits_left width i v h =
    let z : width - i ≡ suc (width - (i + 1)) = omega arith in rw z

pub digits_none : (width i v : ℕ) → width ≤ i → digits (width - i) v ≡ []
unfolding digits
digits_none width i v h =
    let z : width - i ≡ 0 = omega arith in rw z

-- a / gcd a b · b is the least common multiple. Both divide it, since a/g·b is a·(b/g). And where both divide k, a·b divides k·a and k·b,
-- so it divides their greatest common divisor, which divides k·g; take g from both sides.
-- Assumes nothing.
use Prim.Native.Nat.{ℕ, zero, suc, ◌+◌, ◌*◌, ◌/◌, ◌≤◌, ◌<◌, ◌∣◌}
use mathlib.Core.Path.{◌≡◌, refl, sym, ap, ◌∙◌}
use mathlib.Core.List.{List, [], ◌∷◌}
use native.Mathlib.Nat.{
  mul_assoc,
  mul_comm,
  mul-pos,
  dvd_refl,
  dvd-zero,
  one-dvd,
  dvd_trans,
  dvd_antisymm,
  dvd-mul_left,
  dvd-mul_right,
  mul-dvd-mul_left,
  mul-dvd-mul_right,
  dvd_of_mul-dvd-mul_left,
  dvd_of_mul-dvd-mul_right,
  pos_of_dvd_of_pos,
  mul-div_cancel',
  div-mul_cancel,
  eq-zero-or-pos,
  not-suc-le-zero,
  le_of_suc-le-suc,
}
use native.Mathlib.Omega.{arith}
use native.Mathlib.Numerals.{add-one}
use lib.ListN.{length, get_or, drop, drop_of_length-le}
use lib.Seq.{drop-cons}
use Rattle.laws.specs.Divisor.{gcd, lcm, lcm_of}
use Rattle.laws.proofs.Divisor.{gcd_left, gcd_right, gcd_greatest}
use mathlib.Core.Logic.{⊎_elim}

-- ---- of two numbers

pub lcm_left : (a b : ℕ) → a ∣ lcm a b
unfolding lcm
lcm_left a b =
    let g = gcd a b in
    let shown : a / g * b ≡ a * (b / g) =
    ap (λ (k : ℕ). a / g * k) (sym (mul-div_cancel' g (gcd_right a b)))
    ∙ sym (mul_assoc (a / g) g (b / g))
    ∙ ap (λ (k : ℕ). k * (b / g)) (div-mul_cancel g (gcd_left a b)) in
    rw shown (dvd-mul_right a (b / g))

pub lcm_right : (a b : ℕ) → b ∣ lcm a b
unfolding lcm
lcm_right a b = dvd-mul_left b (a / gcd a b)

-- what divides k·a and k·b divides k·g
gcd_of_scaled : (k a b : ℕ) → 0 < k → gcd (k * a) (k * b) ∣ k * gcd a b
gcd_of_scaled k a b h =
    let d = gcd (k * a) (k * b) in
    let whole : k * (d / k) ≡ d = mul-div_cancel' k (gcd_greatest (k * a) (k * b) k (dvd-mul_right k a) (dvd-mul_right k b)) in
    let left : d / k ∣ a = dvd_of_mul-dvd-mul_left (d / k) h (rw whole (gcd_left (k * a) (k * b))) in
    let right : d / k ∣ b = dvd_of_mul-dvd-mul_left (d / k) h (rw whole (gcd_right (k * a) (k * b))) in
    rw whole at (mul-dvd-mul_left (d / k) k (gcd_greatest a b (d / k) left right))

pub lcm_least : (a b k : ℕ) → a ∣ k → b ∣ k → lcm a b ∣ k
unfolding lcm
lcm_least a b k p q =
    ⊎_elim
    (λ (z : k ≡ 0). rw z (dvd-zero (a / gcd a b * b)))
    (λ (h : 0 < k).
    let g = gcd a b in
    let some : 0 < g = pos_of_dvd_of_pos (gcd_left a b) (pos_of_dvd_of_pos p h) in
    let one : a * b ∣ k * a = rw (mul_comm k a) (mul-dvd-mul_left b a q) in
    let other : a * b ∣ k * b = mul-dvd-mul_right a p b in
    let both : a * b ∣ k * g = dvd_trans (a * b) (gcd_greatest (k * a) (k * b) (a * b) one other) (gcd_of_scaled k a b h) in
    let shown : a / g * b * g ≡ a * b =
    mul_assoc (a / g) b g ∙ ap (λ (j : ℕ). a / g * j) (mul_comm b g) ∙ sym (mul_assoc (a / g) g b)
    ∙ ap (λ (j : ℕ). j * b) (div-mul_cancel g (gcd_left a b)) in
    dvd_of_mul-dvd-mul_right (a / g * b) some (rw shown both))
    (eq-zero-or-pos k)

pub lcm_positive : (a b : ℕ) → 0 < a → 0 < b → 0 < lcm a b
lcm_positive a b p q = pos_of_dvd_of_pos (lcm_least a b (a * b) (dvd-mul_right a b) (dvd-mul_left b a)) (mul-pos p q)

pub lcm_assoc : (a b c : ℕ) → lcm (lcm a b) c ≡ lcm a (lcm b c)
lcm_assoc a b c = dvd_antisymm there back
  where
    there : lcm (lcm a b) c ∣ lcm a (lcm b c)
    there =
        let r = lcm_right a (lcm b c) in
        lcm_least (lcm a b) c _ (lcm_least a b _ (lcm_left a (lcm b c)) (dvd_trans _ (lcm_left b c) r)) (dvd_trans _ (lcm_right b c) r)

    back : lcm a (lcm b c) ∣ lcm (lcm a b) c
    back =
        let l = lcm_left (lcm a b) c in
        lcm_least a (lcm b c) _ (dvd_trans _ (lcm_left a b) l)
        (lcm_least b c _ (dvd_trans _ (lcm_right a b) l) (lcm_right (lcm a b) c))

-- ---- of a list

-- every entry divides it
pub lcm_of-divided : (xs : List ℕ) (k : ℕ) → k < length xs → get_or xs k 0 ∣ lcm_of xs
unfolding lcm_of
lcm_of-divided [] k h = absurd (not-suc-le-zero h)
lcm_of-divided (x ∷ xs) zero h = lcm_left x (lcm_of xs)
lcm_of-divided (x ∷ xs) (suc k) h = dvd_trans _ (lcm_of-divided xs k (le_of_suc-le-suc h)) (lcm_right x (lcm_of xs))

-- it divides whatever every entry divides
pub lcm_of_least : (xs : List ℕ) (m : ℕ) → ((k : ℕ) → k < length xs → get_or xs k 0 ∣ m) → lcm_of xs ∣ m
unfolding lcm_of
lcm_of_least [] m h = one-dvd m
lcm_of_least (x ∷ xs) m h = lcm_least x (lcm_of xs) m (h 0 (omega arith)) (lcm_of_least xs m (λ k l. h (suc k) (omega arith)))

-- it is above 0 where every entry is
pub lcm_of_positive : (xs : List ℕ) → ((k : ℕ) → k < length xs → 0 < get_or xs k 0) → 0 < lcm_of xs
unfolding lcm_of
lcm_of_positive [] h = omega arith
lcm_of_positive (x ∷ xs) h = lcm_positive x (lcm_of xs) (h 0 (omega arith)) (lcm_of_positive xs (λ k l. h (suc k) (omega arith)))

-- a loop that goes through a list from its front keeps lcm m (lcm_of of what is left)
pub lcm-start : (b : ℕ) → lcm 1 b ≡ b
lcm-start b = dvd_antisymm (lcm_least 1 b b (one-dvd b) (dvd_refl b)) (lcm_right 1 b)

pub lcm_further : (m i : ℕ) (xs : List ℕ) → i < length xs → lcm (lcm m (get_or xs i 0)) (lcm_of (drop (i + 1) xs))
    ≡ lcm m (lcm_of (drop i xs))
unfolding lcm_of
lcm_further m i xs h = rw (add-one, drop-cons xs i 0) (lcm_assoc m (get_or xs i 0) (lcm_of (drop (suc i) xs)))

pub lcm-finished : (m i : ℕ) (xs : List ℕ) → length xs ≤ i → lcm m (lcm_of (drop i xs)) ≡ m
unfolding lcm_of
lcm-finished m i xs h = rw (drop_of_length-le xs h) (dvd_antisymm (lcm_least m 1 m (dvd_refl m) (one-dvd m)) (lcm_left m 1))

-- ---- as it is worked out

pub lcm_is : (a b : ℕ) → lcm a b ≡ a / gcd a b * b
unfolding lcm
lcm_is a b = refl

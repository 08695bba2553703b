-- Euclid's steps give the greatest common divisor: a step keeps the common divisors, since k divides b and a mod b
-- exactly when it divides b and a; and b falls, so the steps suffice.
-- Assumes nothing.
use Prim.Native.Nat.{ℕ, zero, suc, ◌+◌, ◌-◌, ◌%◌, ◌≤◌, ◌<◌, ◌∣◌}
use mathlib.Core.Path.{◌≡◌, refl, sym, ap, ◌∙◌}
use mathlib.Core.List.{List, [], ◌∷◌}
use mathlib.Core.Logic.{◌↔◌}
use native.Mathlib.Nat.{mod-lt, dvd_refl, dvd-zero, dvd_trans, dvd-mod_iff, dvd_antisymm, zero-lt-suc, not-suc-le-zero, le_of_suc-le-suc}
use native.Mathlib.Omega.{arith}
use native.Mathlib.Numerals.{add-one}
use lib.ListN.{length, get_or, drop, drop_of_length-le}
use lib.Seq.{drop-cons}
use Rattle.laws.specs.Divisor.{euclid, gcd, gcd_of}

-- once there are more steps than b, one more changes nothing
euclid-enough : (k b a : ℕ) → b < k → euclid (suc k) a b ≡ euclid k a b
unfolding euclid
euclid-enough zero b a h = absurd (not-suc-le-zero h)
euclid-enough (suc k) zero a h = refl
euclid-enough (suc k) (suc b) a h =
    euclid-enough k (a % suc b) (suc b) (omega (arith, mod-lt a {m = suc b} (zero-lt-suc b)))

euclid-any : (d b a : ℕ) → euclid (suc b + d) a b ≡ euclid (suc b) a b
euclid-any zero b a = ap (λ (k : ℕ). euclid k a b) (omega arith)
euclid-any (suc d) b a =
    let e : suc b + suc d ≡ suc (suc b + d) = omega arith in
    rw e (euclid-enough (suc b + d) b a (omega arith) ∙ euclid-any d b a)

-- the two equations that a loop by Euclid's steps uses
pub gcd-zero : (a : ℕ) → gcd a 0 ≡ a
unfolding gcd euclid
gcd-zero a = refl

pub gcd_step : (a b : ℕ) → 0 < b → gcd a b ≡ gcd b (a % b)
unfolding gcd euclid
gcd_step a zero h = absurd (not-suc-le-zero h)
gcd_step a (suc b) h =
    let l : a % suc b < suc b = mod-lt a {m = suc b} (zero-lt-suc b) in
    let e : suc b ≡ suc (a % suc b) + (b - a % suc b) = omega arith in
    ap (λ (k : ℕ). euclid k (suc b) (a % suc b)) e ∙ euclid-any (b - a % suc b) (a % suc b) (suc b)

-- it divides both
euclid-divides : (k a b : ℕ) → b < k → (euclid k a b ∣ a) × (euclid k a b ∣ b)
unfolding euclid
euclid-divides zero a b h = absurd (not-suc-le-zero h)
euclid-divides (suc k) a zero h = (dvd_refl a, dvd-zero a)
euclid-divides (suc k) a (suc b) h =
    let r = euclid-divides k (suc b) (a % suc b) (omega (arith, mod-lt a {m = suc b} (zero-lt-suc b))) in
    ((dvd-mod_iff (euclid k (suc b) (a % suc b)) r.0).0 r.1, r.0)

pub gcd_left : (a b : ℕ) → gcd a b ∣ a
unfolding gcd
gcd_left a b = (euclid-divides (suc b) a b (omega arith)).0

pub gcd_right : (a b : ℕ) → gcd a b ∣ b
unfolding gcd
gcd_right a b = (euclid-divides (suc b) a b (omega arith)).1

-- whatever divides both divides it
euclid_greatest : (k a b d : ℕ) → d ∣ a → d ∣ b → d ∣ euclid k a b
unfolding euclid
euclid_greatest zero a b d p q = p
euclid_greatest (suc k) a zero d p q = p
euclid_greatest (suc k) a (suc b) d p q = euclid_greatest k (suc b) (a % suc b) d q ((dvd-mod_iff d q).1 p)

pub gcd_greatest : (a b d : ℕ) → d ∣ a → d ∣ b → d ∣ gcd a b
unfolding gcd
gcd_greatest a b d p q = euclid_greatest (suc b) a b d p q

-- so it does not depend on the order
pub gcd_comm : (a b : ℕ) → gcd a b ≡ gcd b a
gcd_comm a b =
    dvd_antisymm (gcd_greatest b a (gcd a b) (gcd_right a b) (gcd_left a b)) (gcd_greatest a b (gcd b a) (gcd_right b a) (gcd_left b a))

pub gcd_assoc : (a b c : ℕ) → gcd (gcd a b) c ≡ gcd a (gcd b c)
gcd_assoc a b c = dvd_antisymm there back
  where
    there : gcd (gcd a b) c ∣ gcd a (gcd b c)
    there =
        let l = gcd_left (gcd a b) c in
        gcd_greatest a (gcd b c) _ (dvd_trans _ l (gcd_left a b))
        (gcd_greatest b c _ (dvd_trans _ l (gcd_right a b)) (gcd_right (gcd a b) c))

    back : gcd a (gcd b c) ∣ gcd (gcd a b) c
    back =
        let r = gcd_right a (gcd b c) in
        gcd_greatest (gcd a b) c _ (gcd_greatest a b _ (gcd_left a (gcd b c)) (dvd_trans _ r (gcd_left b c)))
        (dvd_trans _ r (gcd_right b c))

-- ---- of a list

-- it divides every entry
pub gcd_of-divides : (xs : List ℕ) (k : ℕ) → k < length xs → gcd_of xs ∣ get_or xs k 0
unfolding gcd_of
gcd_of-divides [] k h = absurd (not-suc-le-zero h)
gcd_of-divides (x ∷ xs) zero h = gcd_left x (gcd_of xs)
gcd_of-divides (x ∷ xs) (suc k) h = dvd_trans _ (gcd_right x (gcd_of xs)) (gcd_of-divides xs k (le_of_suc-le-suc h))

-- whatever divides every entry divides it
pub gcd_of_greatest : (xs : List ℕ) (d : ℕ) → ((k : ℕ) → k < length xs → d ∣ get_or xs k 0) → d ∣ gcd_of xs
unfolding gcd_of
gcd_of_greatest [] d h = dvd-zero d
gcd_of_greatest (x ∷ xs) d h = gcd_greatest x (gcd_of xs) d (h 0 (omega arith)) (gcd_of_greatest xs d (λ k l. h (suc k) (omega arith)))

-- so the common divisors of all entries are the divisors of the greatest
pub gcd_of-common : (xs : List ℕ) (d : ℕ) → (d ∣ gcd_of xs) ↔ ((k : ℕ) → k < length xs → d ∣ get_or xs k 0)
gcd_of-common xs d = ((λ h k l. dvd_trans d h (gcd_of-divides xs k l)), gcd_of_greatest xs d)

-- a loop that goes through a list from its front keeps gcd g (gcd_of of what is left)
pub gcd_through : (g x : ℕ) (xs : List ℕ) → gcd g (gcd_of (x ∷ xs)) ≡ gcd (gcd g x) (gcd_of xs)
unfolding gcd_of
gcd_through g x xs = sym (gcd_assoc g x (gcd_of xs))

pub gcd-start : (b : ℕ) → gcd 0 b ≡ b
gcd-start b = gcd_comm 0 b ∙ gcd-zero b

-- the same by what is left of the list at index i, and at its end
pub gcd_further : (g i : ℕ) (xs : List ℕ) → i < length xs → gcd (gcd g (get_or xs i 0)) (gcd_of (drop (i + 1) xs))
    ≡ gcd g (gcd_of (drop i xs))
gcd_further g i xs h = rw (add-one, drop-cons xs i 0) (sym (gcd_through g (get_or xs i 0) (drop (suc i) xs)))

pub gcd-finished : (g i : ℕ) (xs : List ℕ) → length xs ≤ i → gcd g (gcd_of (drop i xs)) ≡ g
unfolding gcd_of
gcd-finished g i xs h = rw (drop_of_length-le xs h) (gcd-zero g)

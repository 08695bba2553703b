-- The decimal digits of a number. A number has as many as the times that it can be divided by 10 until it is below 10, and the last of
-- them is the remainder by 10, so they can be stored from the last to the first once they are counted.
-- Assumes nothing.
use Prim.Native.Nat.{ℕ, zero, suc, ◌+◌, ◌-◌, ◌/◌, ◌%◌, ◌^◌, ◌≤◌, ◌<◌}
use mathlib.Core.Path.{◌≡◌, refl, sym, ap, ◌∙◌}
use mathlib.Core.List.{List, [], ◌∷◌, ◌++◌, append_assoc}
use native.Mathlib.Nat.{mod-eq_of_lt}
use native.Mathlib.Numerals.{add-one}
use native.Mathlib.Omega.{arith}
use lib.ListN.{length, drop, set, length-append, length-set}
use lib.Seq.{drop-cons, get_or-set_same, drop-set-lt}
use lib.Dec.{ltb}
use borrow.Author.Tests.{lt-ltb, le-ltb}
use Rattle.laws.specs.Choice.{pick}
use Rattle.laws.specs.Lists.{over}
use Rattle.laws.proofs.Cases.{lt_or_le}
use Rattle.laws.proofs.Digits.{quotient_below}
use Rattle.laws.proofs.Writing.{over_is}
use Rattle.paper.specs.Limits.{word_digits}
use Rattle.paper.specs.Text.{decimal_in, decimal}

-- the digits of a number in k + 1 places, and in none
decimal_some : (k n : ℕ) → decimal_in (suc k) n ≡ pick (ltb n 10) ((48 + n) ∷ []) (decimal_in k (n / 10) ++ ((48 + n % 10) ∷ []))
unfolding decimal_in
decimal_some k n = refl

decimal_none : (n : ℕ) → decimal_in zero n ≡ []
unfolding decimal_in
decimal_none n = refl

-- a number below 10 is one digit ..
decimal_one : (k n : ℕ) → n < 10 → decimal_in (suc k) n ≡ (48 + n) ∷ []
decimal_one k n h = decimal_some k n ∙ rw (lt-ltb n 10 h)

-- .. and another ends in its remainder
decimal-more : (k n : ℕ) → 10 ≤ n → decimal_in (suc k) n ≡ decimal_in k (n / 10) ++ ((48 + n % 10) ∷ [])
decimal-more k n h = decimal_some k n ∙ rw (le-ltb n 10 h)

-- how many digits it has
count_one : (k n : ℕ) → n < 10 → length (decimal_in (suc k) n) ≡ 1
count_one k n h = rw (decimal_one k n h)

count_more : (k n : ℕ) → 10 ≤ n → length (decimal_in (suc k) n) ≡ length (decimal_in k (n / 10)) + 1
count_more k n h = rw (decimal-more k n h) (length-append (decimal_in k (n / 10)) ((48 + n % 10) ∷ []))

-- a number below 10^d has at most d digits, for d at least 1
count_most : (d k n : ℕ) → n < 10 ^ suc d → length (decimal_in k n) ≤ suc d
count_most d zero n h = rw (decimal_none n) (omega arith)
count_most zero (suc k) n h = omega (arith, count_one k n (omega arith))
count_most (suc d) (suc k) n h =
    lt_or_le n 10 (λ l. omega (arith, count_one k n l))
    (λ l. omega (arith, count_more k n l, count_most d k (n / 10) (quotient_below 10 (suc d) n (omega arith) h)))

pub decimal_most : (d n : ℕ) → n < 10 ^ suc d → length (decimal n) ≤ suc d
decimal_most d n h = count_most d word_digits n h

-- the last k digits of a number, with zeros in front where it has less
unfoldable pub last_digits : ℕ → ℕ → List ℕ
last_digits zero n = []
last_digits (suc k) n = last_digits k (n / 10) ++ ((48 + n % 10) ∷ [])

last_some : (k n : ℕ) → last_digits (suc k) n ≡ last_digits k (n / 10) ++ ((48 + n % 10) ∷ [])
unfolding last_digits
last_some k n = refl

last_none : (n : ℕ) → last_digits zero n ≡ []
unfolding last_digits
last_none n = refl

last_step : (k n : ℕ) (t : List ℕ) → last_digits (suc k) n ++ t ≡ last_digits k (n / 10) ++ ((48 + n % 10) ∷ t)
last_step k n t = rw (last_some k n) (append_assoc (last_digits k (n / 10)) ((48 + n % 10) ∷ []) t)

-- the digits of a number are as many last digits as it has
last_all : (k n : ℕ) → n < 10 ^ k → decimal_in k n ≡ last_digits (length (decimal_in k n)) n
last_all zero n h = rw (decimal_none n) (sym (last_none n))
last_all (suc k) n h =
    lt_or_le n 10
    (λ l. decimal_one k n l ∙ rw (count_one k n l) (sym (last_some 0 n ∙ rw (last_none (n / 10), mod-eq_of_lt l))))
    (λ l. let rest = last_all k (n / 10) (quotient_below 10 k n (omega arith) h) in
    rw (count_more k n l, add-one)
    (decimal-more k n l ∙ ap (λ (t : List ℕ). t ++ ((48 + n % 10) ∷ [])) rest ∙ sym (last_some (length (decimal_in k (n / 10))) n)))

-- ---- counting the digits by division

-- `count` digits are known, and `left` has the others but one
pub record Counting (n count left : ℕ) : Type 0 where
  pub more : ℕ
  pub most : count + more ≡ word_digits
  pub small : left < 10 ^ suc more
  pub is : count + length (decimal_in (suc more) left) ≡ length (decimal n) + 1

pub counting_start : (n : ℕ) → n < 2 ^ 64 → Counting n 1 n
counting_start n h = record { more = 19; most = refl; small = omega arith; is = omega arith }

pub counting_more : {n count left : ℕ} → Counting n count left → 10 ≤ left → Counting n (count + 1) (left / 10)
counting_more {n} {count} {left} c h = go c.more c.most c.small c.is
  where
    go : (k : ℕ) → count + k ≡ word_digits → left < 10 ^ suc k → count + length (decimal_in (suc k) left) ≡ length (decimal n) + 1
        → Counting n (count + 1) (left / 10)
    go zero p q r = absurd (omega arith)
    go (suc k) p q r =
        record {
          more = k;
          most = omega arith;
          small = quotient_below 10 (suc k) left (omega arith) q;
          is = omega (arith, count_more (suc k) left h);
        }

pub counting_end : {n count left : ℕ} → Counting n count left → left < 10 → (count ≡ length (decimal n)) × (count ≤ word_digits)
counting_end {n} {count} {left} c h = omega (arith, c.most, c.is, count_one c.more left h)

-- ---- storing the digits from the last to the first

-- of n's digits, after a place for the space, all but those of `left`, the first k, stand in xs; l is the buffer before
pub record Storing (n : ℕ) (l xs : List ℕ) (k left : ℕ) : Type 0 where
  pub is : last_digits k left ++ drop (suc k) xs ≡ decimal n ++ drop (suc (length (decimal n))) l

pub storing_start : (n count : ℕ) (l : List ℕ) → n < 2 ^ 64 → count ≡ length (decimal n) → Storing n l l count n
storing_start n count l h e =
    record { is = rw e (ap (λ (t : List ℕ). t ++ drop (suc (length (decimal n))) l) (sym (last_all word_digits n (omega arith)))) }

-- a store at an index is what stands there afterwards
drop-set-same : (l : List ℕ) (i v : ℕ) → i < length l → drop i (set l i v) ≡ v ∷ drop (suc i) l
drop-set-same l i v h =
    drop-cons (set l i v) i 0 (simp length-set h)
    ∙ ap (λ (x : ℕ). x ∷ drop (suc i) (set l i v)) (get_or-set_same l i v 0 h)
    ∙ ap (λ (t : List ℕ). v ∷ t) (drop-set-lt (suc i) l i v (omega arith))

pub storing_more :
    (n k left : ℕ) (l xs : List ℕ) → Storing n l xs k left → 0 < k → k < length xs
    → Storing n l (set xs (k - 1 + 1) (48 + left % 10)) (k - 1) (left / 10)
storing_more n zero left l xs s h p = absurd (omega arith)
storing_more n (suc k) left l xs s h p =
    let z : suc k - 1 ≡ k = omega arith in
    record { is = rw (z, add-one, drop-set-same xs (suc k) (48 + left % 10) p) (sym (last_step k left (drop (suc (suc k)) xs)) ∙ s.is) }

pub storing_end :
    (n k left : ℕ) (l xs : List ℕ) → Storing n l xs k left → k ≡ 0 → 0 < length xs → set xs 0 32 ≡ over (32 ∷ decimal n) l
storing_end n k left l xs s z h =
    let digits = rw (z, last_none left) at s.is in
    drop-set-same xs 0 32 h ∙ ap (λ (t : List ℕ). 32 ∷ t) digits ∙ sym (over_is (32 ∷ decimal n) l)

-- The laws of a search. A loop that looks for the least index keeps `Seeking`: everything passed failed the test. At the
-- first index that passes it stands at `first`, and at the end of the range too. One that holds each index against the one before it keeps
-- `Comparing`; where that is enough to find what passes with any earlier index, `first-beside` tells.
-- Assumes nothing.
use Prim.Native.Nat.{ℕ, zero, suc, ◌+◌, ◌-◌, ◌≤◌, ◌<◌}
use mathlib.Core.Path.{◌≡◌, refl, sym, ap, ◌∙◌}
use mathlib.Core.Bool.{Bool, true, false}
use native.Mathlib.Nat.{le_of_suc-le-suc, not-suc-le-zero, le_antisymm}
use native.Mathlib.Omega.{arith}
use lib.Dec.{ltb}
use borrow.Author.Tests.{ltb-false, le-ltb}
use borrow.Author.Count.{below_more}
use Rattle.laws.specs.Search.{first, any}
use Rattle.laws.proofs.Cases.{by_cases, lt_or_le, not_both}

-- no index below n passes
abbrev pub Clear : (ℕ → Bool) → ℕ → Type 0
Clear test n = (k : ℕ) → k < n → test k ≡ false

-- one step of the search, by what the test says of 0
first_yes : (test : ℕ → Bool) (n : ℕ) → test 0 ≡ true → first test (suc n) ≡ 0
unfolding first
first_yes test n h = rw (h, first)

first_no : (test : ℕ → Bool) (n : ℕ) → test 0 ≡ false → first test (suc n) ≡ suc (first (λ k. test (suc k)) n)
unfolding first
first_no test n h = rw (h, first)

-- an index that passes and has only failures before it is the one found
pub first_is : (test : ℕ → Bool) (n i : ℕ) → i < n → Clear test i → test i ≡ true → first test n ≡ i
first_is test zero i h c p = absurd (not-suc-le-zero h)
first_is test (suc n) zero h c p = first_yes test n p
first_is test (suc n) (suc i) h c p =
    first_no test n (c 0 (omega arith)) ∙ ap suc (first_is (λ k. test (suc k)) n i (omega arith) (λ k l. c (suc k) (omega arith)) p)

-- with only failures the search comes to the end
pub first_none : (test : ℕ → Bool) (n : ℕ) → Clear test n → first test n ≡ n
unfolding first
first_none test zero c = refl
first_none test (suc n) c = first_no test n (c 0 (omega arith)) ∙ ap suc (first_none (λ k. test (suc k)) n (λ k l. c (suc k) (omega arith)))

-- the search never passes the end
pub first-le : (test : ℕ → Bool) (n : ℕ) → first test n ≤ n
unfolding first
first-le test zero = omega arith
first-le test (suc n) =
    by_cases (test 0) (λ h. rw (first_yes test n h) (omega arith))
    (λ h. rw (first_no test n h) (omega (arith, first-le (λ k. test (suc k)) n)))

-- what is before the index found fails
pub first_clear : (test : ℕ → Bool) (n : ℕ) → Clear test (first test n)
unfolding first
first_clear test zero k h = absurd (not-suc-le-zero h)
first_clear test (suc n) k h =
    by_cases (test 0) (λ p. absurd (not-suc-le-zero (rw (first_yes test n p) at h)))
    (λ p. step p k (first_clear (λ j. test (suc j)) n) (rw (first_no test n p) at h))
  where
    step : test 0 ≡ false → (k : ℕ) → Clear (λ j. test (suc j)) (first (λ j. test (suc j)) n) → k < suc (first (λ j. test (suc j)) n)
        → test k ≡ false
    step p zero c l = p
    step p (suc j) c l = c j (le_of_suc-le-suc l)

-- the index found passes, where it is before the end
pub first_holds : (test : ℕ → Bool) (n : ℕ) → first test n < n → test (first test n) ≡ true
unfolding first
first_holds test zero h = absurd (not-suc-le-zero h)
first_holds test (suc n) h =
    by_cases (test 0) (λ p. rw (first_yes test n p) p)
    (λ p. rw (first_no test n p) (first_holds (λ k. test (suc k)) n (le_of_suc-le-suc (rw (first_no test n p) at h))))

-- a search that does not stop before the end has passed only failures, and the converse
pub none_clear : (test : ℕ → Bool) (n : ℕ) → ltb (first test n) n ≡ false → Clear test n
none_clear test n h k l = first_clear test n k (omega (arith, ltb-false (first test n) n h))

pub clear_none : (test : ℕ → Bool) (n : ℕ) → Clear test n → ltb (first test n) n ≡ false
clear_none test n c = le-ltb (first test n) n (omega (arith, first_none test n c))

-- the same for `any`: one that passes is enough
pub any_some : (test : ℕ → Bool) (n k : ℕ) → k < n → test k ≡ true → any test n ≡ true
any_some test n k h p = by_cases (any test n) (λ y. y) (λ y. not_both p (none_clear test n y k h))

-- two searches end at one index where the tests agree on every index before which the first of them found none
pub first_agree : (f g : ℕ → Bool) (n : ℕ) → ((k : ℕ) → k < n → Clear f k → f k ≡ g k) → first f n ≡ first g n
unfolding first
first_agree f g zero e = refl
first_agree f g (suc n) e =
    let here = e 0 (omega arith) (λ k h. absurd (not-suc-le-zero h)) in
    by_cases (f 0)
    (λ p. first_yes f n p ∙ sym (first_yes g n (sym here ∙ p)))
    (λ p. first_no f n p ∙ ap suc (first_agree (λ k. f (suc k)) (λ k. g (suc k)) n (later p)) ∙ sym (first_no g n (sym here ∙ p)))
  where
    clear : f 0 ≡ false → (k : ℕ) → Clear (λ j. f (suc j)) k → Clear f (suc k)
    clear p k c zero h = p
    clear p k c (suc j) h = c j (le_of_suc-le-suc h)

    later : f 0 ≡ false → (k : ℕ) → k < n → Clear (λ j. f (suc j)) k → f (suc k) ≡ g (suc k)
    later p k h c = e (suc k) (omega arith) (clear p k c)

-- so there is one for both or for none
pub any_agree : (f g : ℕ → Bool) (n : ℕ) → ((k : ℕ) → k < n → f k ≡ g k) → any f n ≡ any g n
any_agree f g n e = ap (λ (k : ℕ). ltb k n) (first_agree f g n (λ k h c. e k h))

-- ---- an index and those before it

-- the test of an index with the one before it; 0 has none
unfoldable pub beside : (ℕ → ℕ → Bool) → ℕ → Bool
beside test zero = false
beside test (suc k) = test k (suc k)

-- The least index that passes with some earlier one is the least that passes with the one before it, if no index passes with one further
-- back as long as none has passed with the one before it. (Index by index the two tests may differ: past the least one.)
pub first-beside : (test : ℕ → ℕ → Bool) (n : ℕ) → ((j k : ℕ) → j + 1 < k → k < n → Clear (beside test) k → test j k ≡ false)
    → first (λ k. any (λ j. test j k) k) n ≡ first (beside test) n
unfolding beside
first-beside test n none = sym (first_agree (beside test) (λ k. any (λ j. test j k) k) n agree)
  where
    agree : (k : ℕ) → k < n → Clear (beside test) k → beside test k ≡ any (λ j. test j k) k
    agree zero h c = sym (clear_none (λ j. test j 0) 0 (λ j l. absurd (not-suc-le-zero l)))
    agree (suc k) h c =
        by_cases (test k (suc k)) (λ p. p ∙ sym (any_some (λ j. test j (suc k)) (suc k) k (omega arith) p))
        (λ p. p ∙ sym (clear_none (λ j. test j (suc k)) (suc k)
        (λ j l. below_more _ k (λ i m. none i (suc k) (omega arith) h c) p j (omega arith))))

-- a test that fails wherever another does has no neighbours that pass where that one has none
pub beside-fails : (f g : ℕ → ℕ → Bool) (n : ℕ) → ((j k : ℕ) → g j k ≡ false → f j k ≡ false) → Clear (beside g) n → Clear (beside f) n
unfolding beside
beside-fails f g n less c zero h = refl
beside-fails f g n less c (suc k) h = less k (suc k) (c (suc k) h)

-- ---- a loop that searches

pub record Seeking (test : ℕ → Bool) (n i : ℕ) : Type 0 where
  pub within : i ≤ n
  pub clear : Clear test i

pub seek_none : (test : ℕ → Bool) (n : ℕ) → Seeking test n 0
seek_none test n = record { within = omega arith; clear = λ k h. absurd (not-suc-le-zero h) }

pub seek_more : {test : ℕ → Bool} {n i : ℕ} → Seeking test n i → i < n → test i ≡ false → Seeking test n (i + 1)
seek_more {test} {n} {i} s h p = record { within = omega arith; clear = below_more _ i s.clear p }

pub seek_hit : {test : ℕ → Bool} {n i : ℕ} → Seeking test n i → i < n → test i ≡ true → i ≡ first test n
seek_hit {test} {n} {i} s h p = sym (first_is test n i h s.clear p)

pub seek_miss : {test : ℕ → Bool} {n i : ℕ} → Seeking test n i → n ≤ i → i ≡ first test n
seek_miss {test} {n} {i} s h =
    let e : i ≡ n = le_antisymm s.within h in e ∙ sym (first_none test n (rw e at s.clear))

-- ---- a loop that looks at each index with the one before it, from 1 on

pub record Comparing (test : ℕ → ℕ → Bool) (k : ℕ) : Type 0 where
  pub after_first : 1 ≤ k
  pub clear : Clear (beside test) k

beside_after : (test : ℕ → ℕ → Bool) (k : ℕ) → 1 ≤ k → beside test k ≡ test (k - 1) k
unfolding beside
beside_after test zero h = absurd (not-suc-le-zero h)
beside_after test (suc k) h = let e : suc k - 1 ≡ k = omega arith in rw e

pub compare_none : (test : ℕ → ℕ → Bool) → Comparing test 1
unfolding beside
compare_none test = record { after_first = omega arith; clear = one }
  where
    one : Clear (beside test) 1
    one zero h = refl
    one (suc k) h = absurd (not-suc-le-zero (le_of_suc-le-suc h))

-- none before the least index that passes, which is not 0
pub compare_found : (test : ℕ → ℕ → Bool) (n : ℕ) → first (beside test) n < n → Comparing test (first (beside test) n)
unfolding beside
compare_found test n h =
    record {
      after_first = lt_or_le 0 (first (beside test) n) (λ l. l)
          (λ l. let e : first (beside test) n ≡ 0 = omega arith in not_both (first_holds (beside test) n h) (ap (beside test) e));
      clear = first_clear (beside test) n;
    }

-- and so it is for a test that fails wherever that one does
pub compare_less : (f g : ℕ → ℕ → Bool) {k : ℕ} → ((i j : ℕ) → g i j ≡ false → f i j ≡ false) → Comparing g k → Comparing f k
compare_less f g {k} less c = record { after_first = c.after_first; clear = beside-fails f g k less c.clear }

pub compare_more : {test : ℕ → ℕ → Bool} {k : ℕ} → Comparing test k → test (k - 1) k ≡ false → Comparing test (k + 1)
compare_more {test} {k} c p =
    record { after_first = omega arith; clear = below_more _ k c.clear (beside_after test k c.after_first ∙ p) }

pub compare_hit : {test : ℕ → ℕ → Bool} {n k : ℕ} → Comparing test k → k < n → test (k - 1) k ≡ true → k ≡ first (beside test) n
compare_hit {test} {n} {k} c h p = sym (first_is (beside test) n k h c.clear (beside_after test k c.after_first ∙ p))

pub compare_miss : {test : ℕ → ℕ → Bool} {n k : ℕ} → Comparing test k → n ≤ k → n ≡ first (beside test) n
compare_miss {test} {n} {k} c h = sym (first_none (beside test) n (λ j l. c.clear j (omega arith)))

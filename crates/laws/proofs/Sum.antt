-- The laws of sums over the numbers below a bound. Each is an induction on the bound: what is said of n and of the last summand gives
-- what is said of one more.
-- Assumes nothing.
use Prim.Native.Nat.{ℕ, zero, suc, ◌+◌, ◌*◌, ◌-◌, ◌≤◌, ◌<◌}
use mathlib.Core.Path.{◌≡◌, refl, sym, ap, ◌∙◌}
use mathlib.Core.Bool.{Bool, true, not, ◌&&◌}
use mathlib.Core.List.{List, map}
use native.Mathlib.Nat.{not-suc-le-zero, add-suc, add-zero, suc-mul, zero-mul, mul-zero}
use native.Mathlib.Numerals.{add-one}
use native.Mathlib.Omega.{arith}
use lib.Dec.{ltb, eqb}
use lib.ListN.{length, get_or}
use borrow.Author.Tests.{eq-eqb, ne_eqb, ltb-true, ltb-false}
use Rattle.laws.specs.Choice.{one_if}
use Rattle.laws.specs.Sum.{sum_to}
use Rattle.laws.specs.Lists.{tab, sum_of}
use Rattle.laws.proofs.Cases.{by_cases, lt_or_le, refuted}
use Rattle.laws.proofs.Lists.{map-tab, tab-get_or}
use Rattle.laws.proofs.Decides.{spans, spans_decides, spans_not}

-- the empty sum, and one summand more
pub sum_none : (f : ℕ → ℕ) → sum_to 0 f ≡ 0
unfolding sum_to
sum_none f = refl

pub sum_suc : (n : ℕ) (f : ℕ → ℕ) → sum_to (suc n) f ≡ sum_to n f + f n
unfolding sum_to
sum_suc n f = refl

pub sum_more : (n : ℕ) (f : ℕ → ℕ) → sum_to (n + 1) f ≡ sum_to n f + f n
sum_more n f = rw (add-one n) (sum_suc n f)

-- a sum of one summand is that
pub sum_one : (f : ℕ → ℕ) → sum_to 1 f ≡ f 0
unfolding sum_to
sum_one f = omega arith

-- equal summands below the bound have equal sums
pub sum_ext : (n : ℕ) (f g : ℕ → ℕ) → ((k : ℕ) → k < n → f k ≡ g k) → sum_to n f ≡ sum_to n g
unfolding sum_to
sum_ext zero f g e = refl
sum_ext (suc n) f g e = omega (arith, sum_ext n f g (λ k h. e k (omega arith)), e n (omega arith))

-- and no larger ones no larger sums
pub sum_le : (n : ℕ) (f g : ℕ → ℕ) → ((k : ℕ) → k < n → f k ≤ g k) → sum_to n f ≤ sum_to n g
unfolding sum_to
sum_le zero f g e = omega arith
sum_le (suc n) f g e = omega (arith, sum_le n f g (λ k h. e k (omega arith)), e n (omega arith))

-- the sum of sums
pub sum_plus : (n : ℕ) (f g : ℕ → ℕ) → sum_to n (λ k. f k + g k) ≡ sum_to n f + sum_to n g
unfolding sum_to
sum_plus zero f g = refl
sum_plus (suc n) f g = omega (arith, sum_plus n f g)

-- the sum of multiples
pub sum_times : (n c : ℕ) (f : ℕ → ℕ) → sum_to n (λ k. c * f k) ≡ c * sum_to n f
unfolding sum_to
sum_times zero c f = sym (mul-zero c)
sum_times (suc n) c f = omega (arith, sum_times n c f)

-- the same number n times
pub sum_const : (n c : ℕ) → sum_to n (λ k. c) ≡ n * c
unfolding sum_to
sum_const zero c = omega (arith, zero-mul c)
sum_const (suc n) c = omega (arith, sum_const n c, suc-mul n c)

-- nothing n times
pub sum_zero : (n : ℕ) (f : ℕ → ℕ) → ((k : ℕ) → k < n → f k ≡ 0) → sum_to n f ≡ 0
sum_zero n f e = sum_ext n f (λ k. 0) e ∙ sum_const n 0 ∙ mul-zero n

-- no summand is more than the sum
pub sum_term : (n k : ℕ) (f : ℕ → ℕ) → k < n → f k ≤ sum_to n f
sum_term zero k f h = absurd (not-suc-le-zero h)
sum_term (suc n) k f h =
    lt_or_le k n (λ l. omega (arith, sum_suc n f, sum_term n k f l))
    (λ l. let p : k ≡ n = omega arith in omega (arith, sum_suc n f, ap f p))

-- a sum over a + b numbers is that over a and that over the b after them
pub sum_split : (a b : ℕ) (f : ℕ → ℕ) → sum_to (a + b) f ≡ sum_to a f + sum_to b (λ j. f (a + j))
sum_split a zero f = rw add-zero (omega (arith, sum_none (λ j. f (a + j))))
sum_split a (suc b) f = rw (add-suc a b) (omega (arith, sum_suc (a + b) f, sum_suc b (λ j. f (a + j)), sum_split a b f))

-- the first summand apart
pub sum_first : (n : ℕ) (f : ℕ → ℕ) → sum_to (suc n) f ≡ f 0 + sum_to n (λ k. f (suc k))
sum_first zero f = omega (arith, sum_suc 0 f, sum_none f, sum_none (λ k. f (suc k)))
sum_first (suc n) f = omega (arith, sum_suc (suc n) f, sum_suc n (λ k. f (suc k)), sum_first n f)

-- a sum over n blocks of t numbers, block by block
pub sum_blocks : (n t : ℕ) (f : ℕ → ℕ) → sum_to (n * t) f ≡ sum_to n (λ b. sum_to t (λ u. f (b * t + u)))
sum_blocks zero t f = rw (zero-mul t) (sum_none f ∙ sym (sum_none (λ b. sum_to t (λ u. f (b * t + u)))))
sum_blocks (suc n) t f =
    rw (suc-mul n t)
    (omega (arith, sum_split (n * t) t f, sum_blocks n t f, sum_suc n (λ b. sum_to t (λ u. f (b * t + u)))))

-- two sums change places
pub sum_swap : (n m : ℕ) (f : ℕ → ℕ → ℕ) → sum_to n (λ i. sum_to m (λ j. f i j)) ≡ sum_to m (λ j. sum_to n (λ i. f i j))
sum_swap zero m f = sum_none (λ i. sum_to m (λ j. f i j)) ∙ sym (sum_zero m (λ j. sum_to 0 (λ i. f i j)) (λ j h. sum_none (λ i. f i j)))
sum_swap (suc n) m f =
    sum_suc n (λ i. sum_to m (λ j. f i j))
    ∙ ap (λ s. s + sum_to m (λ j. f n j)) (sum_swap n m f)
    ∙ sym (sum_plus m (λ j. sum_to n (λ i. f i j)) (λ j. f n j))
    ∙ sym (sum_ext m (λ j. sum_to (suc n) (λ i. f i j)) (λ j. sum_to n (λ i. f i j) + f n j) (λ j h. sum_suc n (λ i. f i j)))

-- ---- counts

-- a sum whose summands are 0 but at i is the summand there
pub sum_only : (n i : ℕ) (f : ℕ → ℕ) → i < n → ((k : ℕ) → k < n → (k ≡ i → ⊥) → f k ≡ 0) → sum_to n f ≡ f i
sum_only zero i f h e = absurd (not-suc-le-zero h)
sum_only (suc n) i f h e =
    lt_or_le i n
    (λ l. omega (arith, sum_suc n f, e n (omega arith) (λ q. omega arith), sum_only n i f l (λ k m d. e k (omega arith) d)))
    (λ l. let p : n ≡ i = omega arith in
    omega (arith, sum_suc n f, ap f p, sum_zero n f (λ k m. e k (omega arith) (λ q. omega arith))))

-- where no two of n tests hold, at most one counts
pub count_once : (n : ℕ) (f : ℕ → Bool) → ((j k : ℕ) → j < k → k < n → f j ≡ true → f k ≡ true → ⊥) → sum_to n (λ k. one_if (f k)) ≤ 1
count_once zero f a = omega (arith, sum_none (λ k. one_if (f k)))
count_once (suc n) f a =
    let c : ℕ → ℕ = λ k. one_if (f k) in
    by_cases (f n)
    (λ p. omega (arith, sum_suc n c, ap one_if p, sum_zero n c (λ k l. ap one_if (refuted (f k) (λ q. a k n l (omega arith) q p)))))
    (λ p. omega (arith, sum_suc n c, ap one_if p, count_once n f (λ j k l h. a j k l (omega arith))))

-- and where at most one counts, no two hold
pub once_counted : (n : ℕ) (f : ℕ → Bool) → sum_to n (λ k. one_if (f k)) ≤ 1 → (j k : ℕ) → j < k → k < n → f j ≡ true → f k ≡ true → ⊥
once_counted zero f a j k h l p q = not-suc-le-zero l
once_counted (suc n) f a j k h l p q =
    let c : ℕ → ℕ = λ i. one_if (f i) in
    lt_or_le k n (λ b. once_counted n f (omega (arith, sum_suc n c)) j k h b p q)
    (λ b. let e : n ≡ k = omega arith in
    omega (arith, sum_suc n c, sum_term n j c (omega arith), ap c e, ap one_if p, ap one_if q))

-- of n steps of a number that grows by one at most at each: those at which it stays, and what it has grown
pub sum_stays : (f : ℕ → ℕ) → ((k : ℕ) → f k ≤ f (suc k)) → ((k : ℕ) → f (suc k) ≤ suc (f k)) → (n : ℕ)
    → sum_to n (λ k. one_if (not (ltb (f k) (f (suc k))))) + f n ≡ n + f 0
sum_stays f grow by_one zero = ap (λ s. s + f 0) (sum_none (λ k. one_if (not (ltb (f k) (f (suc k))))))
sum_stays f grow by_one (suc n) =
    let stays : ℕ → ℕ = λ k. one_if (not (ltb (f k) (f (suc k)))) in
    by_cases (ltb (f n) (f (suc n)))
    (λ p. omega (arith, sum_suc n stays, ap (λ b. one_if (not b)) p, ltb-true (f n) (f (suc n)) p, by_one n, sum_stays f grow by_one n))
    (λ p. omega (arith, sum_suc n stays, ap (λ b. one_if (not b)) p, ltb-false (f n) (f (suc n)) p, grow n, sum_stays f grow by_one n))

-- a stretch of l units from a on, with r units after it, has l units
stretch : (a l r : ℕ) → sum_to (a + (l + r)) (λ u. one_if (spans a l u)) ≡ l
stretch a l r =
    let has : ℕ → ℕ = λ u. one_if (spans a l u) in
    omega (
      arith,
      sum_split a (l + r) has,
      sum_split l r (λ j. has (a + j)),
      sum_zero a has (λ u h. ap one_if (spans_not a l u (λ k. omega arith))),
      sum_ext l (λ j. has (a + j)) (λ j. 1) (λ j h. ap one_if ((spans_decides a l (a + j)).1 (omega arith))),
      sum_const l 1,
      sum_zero r (λ j. has (a + (l + j))) (λ j h. ap one_if (spans_not a l (a + (l + j)) (λ k. omega arith))),
    )

-- a stretch of l units from a on, that ends by t, has l of the t units
pub count_stretch : (t a l : ℕ) → a + l ≤ t → sum_to t (λ u. one_if (spans a l u)) ≡ l
count_stretch t a l h = let p : t ≡ a + (l + (t - (a + l))) = omega arith in rw p (stretch a l (t - (a + l)))

-- of the cells of an m by t table one is the cell (i, j)
pub count_cell : (m t i j : ℕ) → i < m → j < t → sum_to m (λ r. sum_to t (λ u. one_if (eqb i r && eqb j u))) ≡ 1
count_cell m t i j h k =
    sum_only m i (λ r. sum_to t (λ u. one_if (eqb i r && eqb j u))) h
    (λ r l d. sum_zero t (λ u. one_if (eqb i r && eqb j u)) (λ u n. rw (ne_eqb i r (λ e. d (sym e)))))
    ∙ sum_only t j (λ u. one_if (eqb i i && eqb j u)) k (λ u n d. rw (eq-eqb i i refl, ne_eqb j u (λ e. d (sym e))))
    ∙ (rw (eq-eqb i i refl, eq-eqb j j refl))

-- ---- the sum of a table

pub sum_tab : (n : ℕ) (f : ℕ → ℕ) → sum_of (tab n f) ≡ sum_to n f
unfolding tab sum_of
sum_tab zero f = sym (sum_none f)
sum_tab (suc n) f = omega (arith, sum_tab n (λ k. f (suc k)), sum_first n f)

-- and of what is made of each entry of a list
pub sum_map : {A : Type 0} (f : A → ℕ) (l : List A) (d : A) → sum_of (map f l) ≡ sum_to (length l) (λ k. f (get_or l k d))
sum_map f l d =
    ap (λ y. sum_of (map f y)) (sym (tab-get_or l d))
    ∙ ap sum_of (map-tab f (length l) (λ k. get_or l k d))
    ∙ sum_tab (length l) (λ k. f (get_or l k d))

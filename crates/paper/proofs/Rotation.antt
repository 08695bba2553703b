-- The rotation, over any `c` that says of each row whether the next one is chained to it.
-- A chain is an unbroken string of links, so `first_of` is the same all along it. The next engine of e is in e's chain: one higher, or the
-- first after the last. So after b steps engine e is b places further round its chain, which is the closed form. A step is one to one and
-- stays below any row that begins a chain, so over all rows below it a sum does not change.
-- Assumes nothing.
use Prim.Native.Nat.{ℕ, zero, suc, ◌+◌, ◌-◌, ◌≤◌, ◌<◌}
use mathlib.Core.Path.{◌≡◌, refl, sym, ap, ◌∙◌}
use mathlib.Core.Bool.{Bool, true, false}
use native.Mathlib.Nat.{not-suc-le-zero}
use native.Mathlib.Numerals.{add-one}
use native.Mathlib.Omega.{arith}
use Rattle.laws.specs.Sum.{sum_to}
use Rattle.laws.proofs.Cases.{by_cases, lt_or_le, by_order, not_both}
use Rattle.laws.proofs.Sum.{sum_suc, sum_none}
use Rattle.paper.specs.declared.Engine.{Engine}
use Rattle.paper.specs.Duties.{engine}
use Rattle.paper.specs.Words.{row}
use Rattle.paper.specs.Rotation.{first_of, next_of, row_at}

module _ (c : ℕ → Bool) where
  -- the first row of a chain: row 0, the row before's first where it is linked, else the row itself
  pub first_zero : first_of c 0 ≡ 0
  unfolding first_of
  first_zero = refl

  pub first_linked : (r : ℕ) → c r ≡ true → first_of c (suc r) ≡ first_of c r
  unfolding first_of
  first_linked r h = rw h

  pub first_cut : (r : ℕ) → c r ≡ false → first_of c (suc r) ≡ suc r
  unfolding first_of
  first_cut r h = rw h

  -- the same for code that walks along the links, back and on
  pub first_back : (r : ℕ) → 0 < r → c (r - 1) ≡ true → first_of c (r - 1) ≡ first_of c r
  first_back zero h p = absurd (not-suc-le-zero h)
  first_back (suc r) h p = let z : suc r - 1 ≡ r = omega arith in rw z (sym (first_linked r (rw z at p)))

  pub first_on : (r : ℕ) → c r ≡ true → first_of c (r + 1) ≡ first_of c r
  first_on r p = rw (add-one r) (first_linked r p)

  -- the first row is not after the row
  pub first_least : (r : ℕ) → first_of c r ≤ r
  first_least zero = omega (arith, first_zero)
  first_least (suc r) =
      by_cases (c r) (λ p. omega (arith, first_linked r p, first_least r)) (λ p. omega (arith, first_cut r p))

  -- the first row is its chain's first
  pub first_twice : (r : ℕ) → first_of c (first_of c r) ≡ first_of c r
  first_twice zero = ap (first_of c) first_zero
  first_twice (suc r) =
      by_cases (c r) (λ p. rw (first_linked r p) (first_twice r)) (λ p. ap (first_of c) (first_cut r p))

  -- from the first row of a chain to any row of it all are linked
  pub first_links : (r k : ℕ) → first_of c r ≤ k → k < r → c k ≡ true
  first_links zero k h l = absurd (not-suc-le-zero l)
  first_links (suc r) k h l =
      by_cases (c r)
      (λ p. lt_or_le k r (λ m. first_links r k (omega (arith, first_linked r p)) m) (λ m. let q : k ≡ r = omega arith in rw q p))
      (λ p. absurd (omega (arith, first_cut r p)))

  -- no chain goes past a row that is not linked
  pub first_past : (l k : ℕ) → c l ≡ false → l < k → l < first_of c k
  first_past l k h m = lt_or_le l (first_of c k) (λ p. p) (λ p. not_both (first_links k l p m) h)

  -- the next engine: one higher where linked, else the chain's first
  pub next_linked : (e : ℕ) → c e ≡ true → next_of c e ≡ suc e
  unfolding next_of
  next_linked e h = rw (h, add-one e)

  pub next_last : (e : ℕ) → c e ≡ false → next_of c e ≡ first_of c e
  unfolding next_of
  next_last e h = rw h

  -- which is the next of no other
  pub next_one : (e d : ℕ) → next_of c e ≡ next_of c d → e ≡ d
  next_one e d h =
      by_cases (c e)
      (λ p. by_cases (c d) (λ q. omega (arith, next_linked e p, next_linked d q)) (λ q. absurd (apart e d p q h)))
      (λ p. by_cases (c d) (λ q. absurd (apart d e q p (sym h))) (λ q. both p q))
    where
      apart : (e d : ℕ) → c e ≡ true → c d ≡ false → next_of c e ≡ next_of c d → ⊥
      apart e d p q h =
          let z : suc e ≡ first_of c d = sym (next_linked e p) ∙ h ∙ next_last d q in
          omega (arith, first_linked e p, first_least e, ap (first_of c) z, first_twice d)

      both : c e ≡ false → c d ≡ false → e ≡ d
      both p q =
          by_order e d
          (λ l. not_both (first_links d e (omega (arith, next_last e p, next_last d q, first_least e)) l) p)
          (λ l. not_both (first_links e d (omega (arith, next_last e p, next_last d q, first_least d)) l) q)
          (λ e. e)

  -- ---- the row of an engine in a block

  -- the walk's beginning
  pub row_start : (e : Engine) → row_at c 0 e ≡ row e.0
  unfolding row_at
  row_start e = refl

  -- and one block more: the step applied to the row
  pub row_next : (b : ℕ) (e : Engine) → row_at c (suc b) e ≡ row (next_of c (row_at c b e).0)
  unfolding row_at
  row_next zero e = refl
  row_next (suc b) e = row_next b (engine (next_of c e.0))

  pub row_after_lem : (b : ℕ) (e : Engine) → row_at c (b + 1) e ≡ row (next_of c (row_at c b e).0)
  row_after_lem b e = rw (add-one b) (row_next b e)

  -- two engines never have one row in a block
  pub row_one : (b : ℕ) (e d : ℕ) → (row_at c b (engine e)).0 ≡ (row_at c b (engine d)).0 → e ≡ d
  unfolding row_at
  row_one zero e d h = h
  row_one (suc b) e d h = next_one e d (row_one b (next_of c e) (next_of c d) h)

  -- ---- all engines below a row that begins a chain

  -- a row begins a chain where it is 0 or the row before is not linked
  pub begins : (m : ℕ) → 0 < m → c (m - 1) ≡ false → first_of c m ≡ m
  begins zero h p = first_zero
  begins (suc m) h p = let z : suc m - 1 ≡ m = omega arith in first_cut m (rw z at p)

  -- the next engine stays below it
  pub next_below : (m e : ℕ) → first_of c m ≡ m → e < m → next_of c e < m
  next_below m e s h =
      by_cases (c e)
      (λ p. lt_or_le (suc e) m (λ l. omega (arith, next_linked e p))
      (λ l. let z : m ≡ suc e = omega arith in absurd (omega (arith, ap (first_of c) z, first_linked e p, first_least e))))
      (λ p. omega (arith, next_last e p, first_least e))

  -- .. and so does the row in any block
  pub row_below : (m : ℕ) → first_of c m ≡ m → (b e : ℕ) → e < m → (row_at c b (engine e)).0 < m
  unfolding row_at
  row_below m s zero e h = h
  row_below m s (suc b) e h = row_below m s b (next_of c e) (next_below m e s h)

  -- a step only permutes: below any k the sums over e and over the next of e differ by the two ends alone
  next_sums : (k : ℕ) (f : ℕ → ℕ) → sum_to k (λ e. f (next_of c e)) + f (first_of c k) ≡ sum_to k f + f k
  next_sums zero f = rw first_zero (omega (arith, sum_none f, sum_none (λ e. f (next_of c e))))
  next_sums (suc k) f =
      by_cases (c k)
      (λ p. omega (arith, sum_suc k f, sum_suc k (λ e. f (next_of c e)), next_sums k f, ap f (next_linked k p), ap f (first_linked k p)))
      (λ p. omega (arith, sum_suc k f, sum_suc k (λ e. f (next_of c e)), next_sums k f, ap f (next_last k p), ap f (first_cut k p)))

  pub next_sum : (m : ℕ) → first_of c m ≡ m → (f : ℕ → ℕ) → sum_to m (λ e. f (next_of c e)) ≡ sum_to m f
  next_sum m s f = omega (arith, next_sums m f, ap f s)

  -- in every block a sum over the engines' rows is that over the rows
  pub row_sum : (m : ℕ) → first_of c m ≡ m → (b : ℕ) (f : ℕ → ℕ) → sum_to m (λ e. f (row_at c b (engine e)).0) ≡ sum_to m f
  unfolding row_at
  row_sum m s zero f = refl
  row_sum m s (suc b) f = next_sum m s (λ e. f (row_at c b (engine e)).0) ∙ row_sum m s b f

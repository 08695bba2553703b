-- Each duty's share of SA1's runs: its runs add up to its slice, and fewer duties are split than there are rows. At a duty's
-- own step its slice is laid, in one run or in two, and at any other step nothing of it, wherever that step begins. And since
-- a duty has a run, there is one run more than duties at least for each that is split.
-- Assumes nothing.
use Prim.Native.Nat.{ℕ, zero, suc, ◌+◌, ◌*◌, ◌≤◌, ◌<◌}
use mathlib.Core.Path.{◌≡◌, refl, sym, ap, ◌∙◌}
use mathlib.Core.Bool.{Bool}
use mathlib.Core.List.{List, [], ◌∷◌}
use native.Mathlib.Nat.{zero-add}
use native.Mathlib.Omega.{arith}
use lib.Dec.{ltb, eqb}
use lib.ListN.{length, get_or}
use borrow.Author.Tests.{ltb-true, eq-eqb, ne_eqb}
use Rattle.laws.specs.Choice.{pick, one_if}
use Rattle.laws.specs.Lists.{sum_of}
use Rattle.laws.specs.Sum.{sum_to}
use Rattle.laws.proofs.Cases.{by_cases}
use Rattle.laws.proofs.Sum.{sum_le, sum_plus, sum_const, sum_zero, sum_only}
use Rattle.laws.proofs.Each.{Each, each_at, each_map}
use Rattle.paper.specs.declared.Run.{Run}
use Rattle.paper.specs.Sa1.{lay}
use Rattle.paper.specs.Rules.{units_of}
use Rattle.plan_laws.proofs.Sa1.{Slice, Of, lay-cases, laid_between, few_runs}

-- ---- units

-- duty i's step adds its slice to i's units and nothing to another's
units_step :
    (t n : ℕ) (ns : List ℕ) (i r u j s : ℕ) → u < t → n ≤ t → ((r' u' : ℕ) → u' < t → units_of (lay t ns (i + 1) r' u') j ≡ s)
    → units_of (lay t (n ∷ ns) i r u) j ≡ pick (eqb i j) n 0 + s
unfolding units_of
units_step t n ns i r u j s a b later =
    lay-cases t n ns i r u a b (λ xs. units_of xs j ≡ pick (eqb i j) n 0 + s)
    (λ r' u' f e c d. ap (λ (k : ℕ). pick (eqb i j) n 0 + k) (later r' u' c))
    (λ u' e c d.
    by_cases (eqb i j) (λ p. rw p (omega (arith, later (r + 1) u' c))) (λ p. rw p (omega (arith, later (r + 1) u' c))))

-- what is laid for the duties from i on is none of an earlier duty's
units_earlier : (t : ℕ) (ns : List ℕ) (i r u j : ℕ) → u < t → Each (Slice t) ns → j < i → units_of (lay t ns i r u) j ≡ 0
unfolding lay units_of
units_earlier t [] i r u j a h l = refl
units_earlier t (n ∷ ns) i r u j a h l =
    units_step t n ns i r u j 0 a h.0.1 (λ r' u' b. units_earlier t ns (i + 1) r' u' j b h.1 (omega arith))
    ∙ rw (ne_eqb i j (λ e. omega arith))

-- each duty's runs add up to its slice
pub units_laid :
    (t : ℕ) (ns : List ℕ) (i r u k j : ℕ) → u < t → Each (Slice t) ns → i + k ≡ j → units_of (lay t ns i r u) j ≡ get_or ns k 0
unfolding lay units_of
units_laid t [] i r u k j a h q = refl
units_laid t (n ∷ ns) i r u zero j a h q =
    units_step t n ns i r u j 0 a h.0.1 (λ r' u' b. units_earlier t ns (i + 1) r' u' j b h.1 (omega arith))
    ∙ rw (eq-eqb i j (omega arith)) (omega arith)
units_laid t (n ∷ ns) i r u (suc k) j a h q =
    units_step t n ns i r u j (get_or ns k 0) a h.0.1 (λ r' u' b. units_laid t ns (i + 1) r' u' k j b h.1 (omega arith))
    ∙ rw (ne_eqb i j (λ e. omega arith)) (omega arith)

-- ---- splits

-- how many runs duty i has
unfoldable pub runs_of : List Run → ℕ → ℕ
runs_of [] i = zero
runs_of (x ∷ xs) i = one_if (eqb x.duty i) + runs_of xs i

-- the duty is split: it has more than one
abbrev pub is_split : List Run → ℕ → Bool
is_split xs i = ltb 1 (runs_of xs i)

-- a duty with a unit has a run
runs_least : (xs : List Run) (i : ℕ) → 1 ≤ units_of xs i → 1 ≤ runs_of xs i
unfolding units_of runs_of
runs_least [] i h = h
runs_least (x ∷ xs) i h =
    by_cases (eqb x.duty i) (λ p. rw p (omega arith)) (λ p. rw p (omega (arith, runs_least xs i (rw (p, zero-add) at h))))

-- the runs of the duties below n are all runs
runs_counted : (n : ℕ) (xs : List Run) → Each (λ x. x.duty < n) xs → sum_to n (runs_of xs) ≡ length xs
unfolding runs_of
runs_counted n [] h = sum_zero n (λ i. 0) (λ i l. refl)
runs_counted n (x ∷ xs) h =
    let own : ℕ → ℕ = λ i. one_if (eqb x.duty i) in
    let one = sum_only n x.duty own h.0 (λ i l d. ap one_if (ne_eqb x.duty i (λ e. d (sym e)))) in
    sum_plus n own (runs_of xs) ∙ omega (arith, one, ap one_if (eq-eqb x.duty x.duty refl), runs_counted n xs h.1)

-- fewer duties are split than there are rows
pub few_splits :
    (t m : ℕ) (ns : List ℕ) → 1 ≤ t → Each (Slice t) ns → 1 ≤ length ns → sum_of ns ≤ m * t
    → sum_to (length ns) (λ i. one_if (is_split (lay t ns 0 0 0) i)) + 1 ≤ m
few_splits t m ns a h s fit =
    omega (
      arith,
      few_runs t m ns 0 0 0 a h s (omega arith),
      runs_counted (length ns) xs
          (each_map (Of t ns 0 0 0) (λ x. x.duty < length ns) (λ x l. omega arith) xs (laid_between t ns 0 0 0 a h)),
      sum_le (length ns) (λ i. 1 + one_if (is_split xs i)) (runs_of xs) split,
      sum_plus (length ns) (λ i. 1) (λ i. one_if (is_split xs i)),
      sum_const (length ns) 1,
    )
  where
    xs : List Run
    xs = lay t ns 0 0 0

    split : (i : ℕ) → i < length ns → 1 + one_if (is_split xs i) ≤ runs_of xs i
    split i l =
        let some = runs_least xs i (rw (units_laid t ns 0 0 0 i i a h (zero-add i)) (each_at (Slice t) 0 ns h i l).0) in
        by_cases (is_split xs i) (λ p. rw p (ltb-true 1 (runs_of xs i) p)) (λ p. rw p some)

-- Why a cut finds the chosen. How many want a unit before a duty only grows from duty to duty. So once F or more want one before some duty,
-- F or more do before every later one: the duties before which fewer than F want a unit are just those before the first that is not so, the
-- cut.
-- Assumes nothing.
use Prim.Native.Nat.{ℕ, ◌+◌, ◌-◌, ◌≤◌, ◌<◌}
use mathlib.Core.Path.{◌≡◌, sym, ap, ◌∙◌}
use mathlib.Core.Bool.{◌&&◌}
use mathlib.Core.List.{List}
use native.Mathlib.Omega.{arith}
use lib.Dec.{leb, ltb}
use borrow.Author.Tests.{lt-ltb, le-ltb, leb-true, leb-false}
use Rattle.laws.specs.Choice.{one_if}
use Rattle.laws.specs.Sum.{sum_to}
use Rattle.laws.proofs.Cases.{lt_or_le}
use Rattle.laws.proofs.Search.{first-le, first_clear, first_holds}
use Rattle.laws.proofs.Sum.{sum_none, sum_more, sum_split}
use Rattle.paper.specs.Sa2.{Sharing, duty_count, free, wants, wanting_to, chosen}
use Rattle.share_laws.specs.Cut.{cut_of}

module _ (s : Sharing) (ws : List ℕ) where
  -- a duty that wants a unit counts as 1
  abbrev wanted : ℕ → ℕ
  wanted j = one_if (wants s ws j)

  -- the count before the first duty, and before the next
  pub wanting_none : wanting_to s ws 0 ≡ 0
  unfolding wanting_to
  wanting_none = sum_none wanted

  pub wanting_more : (i : ℕ) → wanting_to s ws (i + 1) ≡ wanting_to s ws i + one_if (wants s ws i)
  unfolding wanting_to
  wanting_more i = sum_more i wanted

  -- it only grows
  wanting_grows : (i j : ℕ) → i ≤ j → wanting_to s ws i ≤ wanting_to s ws j
  unfolding wanting_to
  wanting_grows i j h =
      let e : j ≡ i + (j - i) = omega arith in
      let split : sum_to j wanted ≡ sum_to i wanted + sum_to (j - i) (λ k. wanted (i + k)) =
      ap (λ (n : ℕ). sum_to n wanted) e ∙ sum_split i (j - i) wanted in
      omega (arith, split)

  -- a cut is one of the duties, or how many there are
  pub cut_most : cut_of s ws ≤ duty_count s
  unfolding cut_of
  cut_most = first-le (λ i. leb (free s ws) (wanting_to s ws i)) (duty_count s)

  -- before the cut fewer than F want a unit, from it on F or more
  before_cut : (i : ℕ) → i < cut_of s ws → wanting_to s ws i < free s ws
  unfolding cut_of
  before_cut i h =
      leb-false (free s ws) (wanting_to s ws i) (first_clear (λ k. leb (free s ws) (wanting_to s ws k)) (duty_count s) i h)

  from_cut : (i : ℕ) → i < duty_count s → cut_of s ws ≤ i → free s ws ≤ wanting_to s ws i
  unfolding cut_of
  from_cut i l h =
      let full = first_holds (λ k. leb (free s ws) (wanting_to s ws k)) (duty_count s) (omega arith) in
      omega (arith, leb-true (free s ws) (wanting_to s ws (cut_of s ws)) full, wanting_grows (cut_of s ws) i h)

  -- so the one test is the other
  pub cut_tells : (i : ℕ) → i < duty_count s → ltb i (cut_of s ws) ≡ ltb (wanting_to s ws i) (free s ws)
  cut_tells i l =
      lt_or_le i (cut_of s ws)
      (λ h. lt-ltb i (cut_of s ws) h ∙ sym (lt-ltb (wanting_to s ws i) (free s ws) (before_cut i h)))
      (λ h. le-ltb i (cut_of s ws) h ∙ sym (le-ltb (wanting_to s ws i) (free s ws) (from_cut i l h)))

  -- and a duty is chosen where it wants a unit and stands before the cut
  pub chosen_by_cut : (i : ℕ) → i < duty_count s → chosen s ws i ≡ wants s ws i && ltb i (cut_of s ws)
  unfolding chosen
  chosen_by_cut i l = rw (cut_tells i l)

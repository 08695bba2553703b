-- One duty of SA1: the place after its slice, and the runs that it has.
-- Assumes nothing.
use Prim.Native.Nat.{ℕ, ◌+◌, ◌-◌, ◌≤◌, ◌<◌}
use mathlib.Core.Path.{◌≡◌, refl, sym, ap, ◌∙◌}
use mathlib.Core.List.{[], ◌∷◌}
use lib.Dec.{leb, ltb}
use native.Mathlib.Omega.{arith}
use lib.ListN.{length}
use borrow.Author.Tests.{le-leb, lt-leb, lt-ltb, le-ltb}
use Rattle.laws.specs.Choice.{pick}
use Rattle.laws.proofs.Cases.{lt_or_le}
use Rattle.paper.specs.Words.{row, run}
use Rattle.paper.specs.Sa1.{lay_one, row_after, unit_after}
use Rattle.sa1_runs.specs.declared.Place.{Place}
use Rattle.sa1_runs.specs.Laying.{place_after, laid_at, runs_at, first_run, second_run, units_to}

-- units that end before the row does leave the place on the row; at an exact fit and past the end it is on the next
module _ (t n : ℕ) (p : Place) where
  place_by :
      place_after t n p
      ≡ record {
        row = row (pick (ltb (p.unit + n) t) p.row.0 (p.row.0 + 1));
        unit = pick (ltb (p.unit + n) t) (p.unit + n) (p.unit + n - t);
      }
  unfolding row_after unit_after
  place_by = refl

  pub place_inside : p.unit + n < t → place_after t n p ≡ record { row = row p.row.0; unit = p.unit + n }
  place_inside h = place_by ∙ rw (lt-ltb (p.unit + n) t)

  pub place_beyond : t ≤ p.unit + n → place_after t n p ≡ record { row = row (p.row.0 + 1); unit = p.unit + n - t }
  place_beyond h = place_by ∙ rw (le-ltb (p.unit + n) t)

-- one run where the units stay in the row, an exact fit among them; else two
module _ (t n u : ℕ) where
  runs_by : runs_at t n u ≡ pick (leb (u + n) t) 1 2
  unfolding runs_at
  runs_by = refl

  pub runs_whole : u + n ≤ t → runs_at t n u ≡ 1
  runs_whole h = runs_by ∙ rw (le-leb (u + n) t)

  pub runs_split : t < u + n → runs_at t n u ≡ 2
  runs_split h = runs_by ∙ rw (lt-leb (u + n) t)

-- and the other way
pub runs_one : (t n u : ℕ) → runs_at t n u ≡ 1 → u + n ≤ t
runs_one t n u e = lt_or_le t (u + n) (λ h. omega (arith, runs_split t n u h)) (λ h. h)

pub runs_two : (t n u : ℕ) → (runs_at t n u ≡ 1 → ⊥) → (t < u + n) × (runs_at t n u ≡ 2)
runs_two t n u f = lt_or_le t (u + n) (λ h. (h, runs_split t n u h)) (λ h. absurd (f (runs_whole t n u h)))

-- which runs they are, and how many
module _ (t n i : ℕ) (p : Place) where
  laid_by :
      laid_at t n i p
      ≡ pick (leb (p.unit + n) t) (run p.row.0 i p.unit n ∷ []) (run p.row.0 i p.unit (t - p.unit) ∷ second_run t n i p ∷ [])
  unfolding lay_one
  laid_by = refl

  pub laid_whole : p.unit + n ≤ t → laid_at t n i p ≡ first_run t n i p ∷ []
  laid_whole h = laid_by ∙ rw (le-leb (p.unit + n) t)

  pub laid_split : t < p.unit + n → laid_at t n i p ≡ first_run t n i p ∷ second_run t n i p ∷ []
  laid_split h = laid_by ∙ rw (lt-leb (p.unit + n) t)

  pub laid_length : length (laid_at t n i p) ≡ runs_at t n p.unit
  laid_length =
      lt_or_le t (p.unit + n)
      (λ h. ap length (laid_split h) ∙ sym (runs_split t n p.unit h))
      (λ h. ap length (laid_whole h) ∙ sym (runs_whole t n p.unit h))

-- on the line of all places the next duty starts where this one's units end
pub units_after : (t n : ℕ) (p : Place) → units_to t (place_after t n p) ≡ units_to t p + n
units_after t n p =
    lt_or_le (p.unit + n) t
    (λ h. ap (units_to t) (place_inside t n p h) ∙ omega arith)
    (λ h. ap (units_to t) (place_beyond t n p h) ∙ omega arith)

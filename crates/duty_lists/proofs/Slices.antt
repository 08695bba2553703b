-- The duties of a list, one by one: the slices that are left at a duty.
-- Assumes nothing.
use Prim.Native.Nat.{ℕ, ◌+◌, ◌≤◌, ◌<◌}
use mathlib.Core.Path.{◌≡◌, sym, ap, ◌∙◌}
use mathlib.Core.List.{List, [], ◌∷◌, map}
use native.Mathlib.Numerals.{add-one}
use native.Mathlib.Omega.{arith}
use lib.ListN.{length, drop, drop_of_length-le, length-map}
use lib.Seq.{drop-cons}
use Rattle.laws.specs.Lists.{sum_of}
use Rattle.laws.proofs.Lists.{drop-map, sum_of_step, sum_of-done}
use Rattle.paper.specs.declared.Duty.{Duty}
use Rattle.paper.specs.Duties.{duty, duty_at}
use Rattle.paper.specs.Words.{slice}
use Rattle.paper.specs.Sa1.{slices}

-- the slices that are left at index i begin with duty i's; after the last duty none is left
pub slices_left :
    (t : ℕ) (ds : List Duty) (i : ℕ) → i < length ds
    → drop i (slices t ds) ≡ slice t (duty_at ds i) ∷ drop (i + 1) (slices t ds)
slices_left t ds i h =
    let here : drop i ds ≡ duty_at ds i ∷ drop (i + 1) ds = rw (add-one, drop-cons ds i (duty 0 0)) in
    drop-map (slice t) i ds ∙ ap (map (slice t)) here
    ∙ ap (λ (l : List ℕ). slice t (duty_at ds i) ∷ l) (sym (drop-map (slice t) (i + 1) ds))

pub slices_none : (t : ℕ) (ds : List Duty) (i : ℕ) → length ds ≤ i → drop i (slices t ds) ≡ []
slices_none t ds i h = drop_of_length-le (slices t ds) {i = i} (omega (arith, length-map ds (slice t)))

-- the same of what they add up to
pub total_left :
    (t : ℕ) (ds : List Duty) (i : ℕ) → i < length ds
    → sum_of (drop i (slices t ds)) ≡ slice t (duty_at ds i) + sum_of (drop (i + 1) (slices t ds))
total_left t ds i h = ap sum_of (slices_left t ds i h) ∙ sum_of_step (slice t (duty_at ds i)) (drop (i + 1) (slices t ds))

pub total_none : (t : ℕ) (ds : List Duty) (i : ℕ) → length ds ≤ i → sum_of (drop i (slices t ds)) ≡ 0
total_none t ds i h = sum_of-done (slices t ds) i (omega (arith, length-map ds (slice t)))

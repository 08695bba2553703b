-- SA1 duty by duty: what is left to lay and to count at duty i is its own slice, and from the place after it what is left at the next.
-- Assumes nothing.
use Prim.Native.Nat.{ℕ, ◌+◌, ◌≤◌, ◌<◌}
use mathlib.Core.Path.{◌≡◌, sym, ap, ◌∙◌}
use mathlib.Core.List.{List, [], ◌∷◌, ◌++◌}
use native.Mathlib.Omega.{arith}
use lib.ListN.{length, drop, length-append}
use Rattle.paper.specs.declared.Duty.{Duty}
use Rattle.paper.specs.Duties.{duty_at}
use Rattle.paper.specs.Words.{slice}
use Rattle.paper.specs.Sa1.{slices}
use Rattle.plan_laws.proofs.Sa1.{lay_step, lay_end}
use Rattle.duty_lists.proofs.Slices.{slices_left, slices_none}
use Rattle.sa1_runs.specs.declared.Place.{Place}
use Rattle.sa1_runs.specs.Laying.{place_after, laid_at, laid_from, runs_at}
use Rattle.sa1_runs.proofs.Laying.{laid_length}

-- what is left to lay at duty i from place p on: its n units, and from the place q after them what is left at the next duty
pub lay_left :
    (t n : ℕ) (ds : List Duty) (i : ℕ) (p q : Place) → i < length ds → n ≡ slice t (duty_at ds i) → q ≡ place_after t n p
    → laid_from t (drop i (slices t ds)) i p ≡ laid_at t n i p ++ laid_from t (drop (i + 1) (slices t ds)) (i + 1) q
lay_left t n ds i p q h e f =
    ap (λ (ns : List ℕ). laid_from t ns i p) (slices_left t ds i h ∙ ap (λ (k : ℕ). k ∷ drop (i + 1) (slices t ds)) (sym e))
    ∙ lay_step t n (drop (i + 1) (slices t ds)) i p.row.0 p.unit
    ∙ ap (λ (x : Place). laid_at t n i p ++ laid_from t (drop (i + 1) (slices t ds)) (i + 1) x) (sym f)

-- after the last duty nothing is left
pub lay_none : (t : ℕ) (ds : List Duty) (i : ℕ) (p : Place) → length ds ≤ i → laid_from t (drop i (slices t ds)) i p ≡ []
lay_none t ds i p h = ap (λ (ns : List ℕ). laid_from t ns i p) (slices_none t ds i h) ∙ lay_end t i p.row.0 p.unit

-- the same by the number of runs
pub count_left :
    (t n : ℕ) (ds : List Duty) (i : ℕ) (p q : Place) → i < length ds → n ≡ slice t (duty_at ds i) → q ≡ place_after t n p
    → length (laid_from t (drop i (slices t ds)) i p) ≡ runs_at t n p.unit + length (laid_from t (drop (i + 1) (slices t ds)) (i + 1) q)
count_left t n ds i p q h e f =
    ap length (lay_left t n ds i p q h e f)
    ∙ length-append (laid_at t n i p) (laid_from t (drop (i + 1) (slices t ds)) (i + 1) q)
    ∙ omega (arith, laid_length t n i p)

pub count_none : (t : ℕ) (ds : List Duty) (i : ℕ) (p : Place) → length ds ≤ i → length (laid_from t (drop i (slices t ds)) i p) ≡ 0
count_none t ds i p h = ap length (lay_none t ds i p h)

-- The bytes that are left to write at duty i are its own runs', and from the place after its slice what is left at the next.
-- Assumes nothing.
use Prim.Native.Nat.{ℕ, ◌+◌, ◌≤◌, ◌<◌}
use mathlib.Core.Path.{◌≡◌, ap, ◌∙◌}
use mathlib.Core.List.{List, [], ◌++◌}
use lib.ListN.{length, drop}
use Rattle.laws.proofs.Lists.{flat_append, flat_end}
use Rattle.paper.specs.declared.Duty.{Duty}
use Rattle.paper.specs.Duties.{duty_at}
use Rattle.paper.specs.Words.{slice}
use Rattle.paper.specs.Sa1.{slices}
use Rattle.paper.specs.Limits.{small}
use Rattle.paper.specs.Bytes.{run_bytes}
use Rattle.sa1_runs.specs.declared.Place.{Place}
use Rattle.sa1_runs.specs.Laying.{place_after, laid_at, laid_from}
use Rattle.sa1_measure.proofs.LaidLeft.{lay_left, lay_none}
use Rattle.sa1_table.specs.RunBytes.{runs_bytes}

pub bytes_left :
    (t n : ℕ) (ds : List Duty) (i : ℕ) (p q : Place) → i < length ds → n ≡ slice t (duty_at ds i) → q ≡ place_after t n p
    → runs_bytes (laid_from t (drop i (slices t ds)) i p)
    ≡ runs_bytes (laid_at t n i p) ++ runs_bytes (laid_from t (drop (i + 1) (slices t ds)) (i + 1) q)
bytes_left t n ds i p q h e f =
    ap runs_bytes (lay_left t n ds i p q h e f)
    ∙ flat_append (run_bytes small) (laid_at t n i p) (laid_from t (drop (i + 1) (slices t ds)) (i + 1) q)

pub bytes_none : (t : ℕ) (ds : List Duty) (i : ℕ) (p : Place) → length ds ≤ i → runs_bytes (laid_from t (drop i (slices t ds)) i p) ≡ []
bytes_none t ds i p h = ap runs_bytes (lay_none t ds i p h) ∙ flat_end (run_bytes small)

-- A layout as the definitions have it.
use Rattle.std.specs.Prelude.{ℕ, ◌*◌, ◌≤◌, ◌<◌, ◌≡◌, Result, Ok, Err, List, length}
use Rattle.laws.specs.Lists.{sum_of}
use Rattle.paper.specs.declared.Duty.{Duty}
use Rattle.paper.specs.declared.Refusal.{Refusal}
use Rattle.paper.specs.declared.Refusal.TheVariants.{PartSlice}
use Rattle.paper.specs.Sa1.{slices}
use Rattle.paper.specs.Builder.{bad_slice}
use Rattle.sa1_runs.specs.declared.Layout.{Layout}
use Rattle.sa1_runs.specs.Laying.{laid_from, corner, units_to}

-- every slice is whole; its runs are as many as SA1 makes, at most two of each duty; before its end are as many units as the slices have; a
-- duty moves the row by one at the most
pub record LaidOut (t : ℕ) (ds : List Duty) (r : Layout) : Type 0 where
  pub all_whole : length ds ≤ bad_slice t ds
  pub counted : r.runs ≡ length (laid_from t (slices t ds) 0 corner)
  pub most_runs_lem : r.runs ≤ 2 * length ds
  pub total : units_to t r.end ≡ sum_of (slices t ds)
  pub unit_below : r.end.unit < t
  pub row_most : r.end.row.0 ≤ length ds

-- the layout of all; or 6, and the first duty whose slice is not whole
abbrev pub Measured : ℕ → List Duty → Result Layout Refusal → Type 0
Measured t ds (Ok r) = LaidOut t ds r
Measured t ds (Err why) = (bad_slice t ds < length ds) × (why ≡ PartSlice (bad_slice t ds))

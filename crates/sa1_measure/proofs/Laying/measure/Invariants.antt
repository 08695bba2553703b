use Prim.Native.Nat.{◌+◌, ◌*◌, ◌≤◌, ◌<◌}
use mathlib.Core.Path.{◌≡◌}
use mathlib.Core.Bool.{not}
use lib.ListN.{length, drop}
use Rattle.laws.specs.Lists.{sum_of}
use Rattle.laws.proofs.Search.{Seeking}
use Rattle.paper.specs.Duties.{duty_at}
use Rattle.paper.specs.Words.{whole}
use Rattle.paper.specs.Sa1.{slices}
use Rattle.sa1_runs.specs.Laying.{laid_from, corner, units_to}
use Rattle.sa1_measure.proofs.Laying.measure.Given as goal

abbrev pub invariant-loop-i : goal.invariant-loop-i
invariant-loop-i l =
    let t = l.self.ticks in
    let ds = l.self.duties in
    Seeking (λ d. not (whole t (duty_at ds d))) (length ds) l.i × (l.runs ≤ 2 * l.i) × (l.place.unit < t) × (l.place.row.0 ≤ l.i)
    × (l.runs + length (laid_from t (drop l.i (slices t ds)) l.i l.place) ≡ length (laid_from t (slices t ds) 0 corner))
    × (units_to t l.place + sum_of (drop l.i (slices t ds)) ≡ sum_of (slices t ds))

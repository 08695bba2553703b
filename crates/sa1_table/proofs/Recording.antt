-- Duties and runs written by turns: i of the duties' records stand at the front of the buffer, and their runs behind where all duties'
-- records will stand. Duty i's record takes its place in the gap between them, and its runs go where the last run stopped.
-- Assumes nothing.
use Prim.Native.Nat.{ℕ, ◌+◌, ◌*◌, ◌≤◌, ◌<◌}
use mathlib.Core.Path.{◌≡◌, refl, ap}
use mathlib.Core.List.{List, ◌++◌}
use native.Mathlib.Omega.{arith}
use lib.ListN.{length, drop}
use Rattle.laws.specs.Lists.{flat, over}
use Rattle.laws.proofs.Lists.{flat_left, flat_none}
use Rattle.laws.proofs.TwoPlaces.{Both, both_none, both_front, both_behind, both_next, both_moved, both_room, both_done}
use Rattle.paper.specs.declared.Duty.{Duty}
use Rattle.paper.specs.Duties.{duty, duty_at}
use Rattle.paper.specs.Words.{slice}
use Rattle.paper.specs.Sa1.{slices}
use Rattle.paper.specs.Limits.{small, duty_length, run_length}
use Rattle.paper.specs.Bytes.{duty_bytes}
use Rattle.table_laws.proofs.Bytes.{length-duty}
use Rattle.sa1_runs.specs.declared.Place.{Place}
use Rattle.sa1_runs.specs.Laying.{place_after, laid_at, laid_from, runs_at, corner}
use Rattle.sa1_table.specs.RunBytes.{runs_bytes, records_bytes, records_length}
use Rattle.sa1_measure.proofs.LaidLeft.{count_left}
use Rattle.sa1_table.proofs.BytesLeft.{bytes_left, bytes_none}
use Rattle.sa1_table.proofs.RunBytes.{runs_bytes_lem, bytes_length}
use Rattle.sa1_table.proofs.Table.{duties_bytes, lent, back}

-- the runs that are left from duty i and place p on
abbrev runs_left : ℕ → List Duty → ℕ → Place → List ℕ
runs_left t ds i p = runs_bytes (laid_from t (drop i (slices t ds)) i p)

-- over the buffer l, which has the room; `out` is the buffer now, `at` where the next run goes, p the place of the next slice
pub record Recording (t : ℕ) (ds : List Duty) (l out : List ℕ) (at i : ℕ) (p : Place) : Type 0 where
  pub room : records_length t ds ≤ length l
  pub within : i ≤ length ds
  pub long : length out ≡ length l
  pub unit_below : p.unit < t
  pub row_most : p.row.0 ≤ i
  pub both : Both (flat duty_bytes ds) (runs_left t ds 0 corner) l (flat duty_bytes (drop i ds)) (runs_left t ds i p) out
      (duty_length * i) at

pub recording_none :
    (t : ℕ) (ds : List Duty) (l : List ℕ) → records_length t ds ≤ length l → 1 ≤ t → Recording t ds l l (duty_length * length ds) 0 corner
recording_none t ds l h some =
    record {
      room = h;
      within = omega arith;
      long = refl;
      unit_below = some;
      row_most = omega arith;
      both = both_moved refl (duties_bytes ds)
          (both_none (flat duty_bytes ds) (runs_left t ds 0 corner) l (omega (arith, duties_bytes ds)));
    }

module _ {t : ℕ} {ds : List Duty} {l out : List ℕ} {at i : ℕ} {p : Place} (r : Recording t ds l out at i p) (h : i < length ds) where
  module _ (n : ℕ) (q : Place) (e : n ≡ slice t (duty_at ds i)) (f : q ≡ place_after t n p) where
    -- the runs of the next duty have room
    pub runs_room : at + run_length small * runs_at t n p.unit ≤ length out
    runs_room =
        let left = laid_from t (drop i (slices t ds)) i p in
        omega (
          arith,
          r.room,
          r.long,
          (both_room r.both).1,
          duties_bytes ds,
          runs_bytes_lem (laid_from t (slices t ds) 0 corner),
          runs_bytes_lem left,
          count_left t n ds i p q h e f,
        )

    -- one duty more: its record, then its runs
    pub recording_more :
        (x : Duty) (ys zs : List ℕ) → x ≡ duty_at ds i → ys ≡ over (duty_bytes x) (lent (duty_length * i) out)
        → zs ≡ over (runs_bytes (laid_at t n i p)) (lent at (back (duty_length * i) out ys))
        → length (back at (back (duty_length * i) out ys) zs) ≡ length l → q.unit < t → q.row.0 ≤ p.row.0 + 1
        → Recording t ds l (back at (back (duty_length * i) out ys) zs) (at + run_length small * runs_at t n p.unit) (i + 1) q
    recording_more x ys zs g y z k u v =
        let own = laid_at t n i p in
        let own-record : flat duty_bytes (drop i ds) ≡ duty_bytes x ++ flat duty_bytes (drop (i + 1) ds) =
        rw g (flat_left duty_bytes (duty 0 0) ds i h) in
        let stood = both_next own-record (bytes_left t n ds i p q h e f) r.both in
        let dutied = both_front (duty_bytes x) ys stood y in
        let next : duty_length * i + length (duty_bytes x) ≡ duty_length * (i + 1) = omega (arith, length-duty x) in
        record {
          room = r.room;
          within = omega arith;
          long = k;
          unit_below = u;
          row_most = omega (arith, r.row_most);
          both = both_moved next (ap (λ (j : ℕ). at + j) (bytes_length t n i p)) (both_behind (runs_bytes own) zs dutied z);
        }

-- all of them
pub recording_end :
    {t : ℕ} {ds : List Duty} {l out : List ℕ} {at i : ℕ} {p : Place} → Recording t ds l out at i p → length ds ≤ i
    → out ≡ over (records_bytes t ds) l
recording_end {t} {ds} {l} {out} {at} {i} {p} r h = both_done (both_next (flat_none duty_bytes ds i h) (bytes_none t ds i p h) r.both)

-- .. and how long they are
pub recording_length :
    {t : ℕ} {ds : List Duty} {l out : List ℕ} {at i : ℕ} {p : Place} → Recording t ds l out at i p → length ds ≤ i
    → at ≡ records_length t ds
recording_length {t} {ds} {l} {out} {at} {i} {p} r h =
    omega (
      arith,
      (both_room r.both).1,
      ap length (bytes_none t ds i p h),
      duties_bytes ds,
      runs_bytes_lem (laid_from t (slices t ds) 0 corner),
    )

-- SA1's table is in form and meets the rules, where the duties are in range, their slices whole and the slices fit the
-- engines. Rule 12 is that they are whole; 13 to 17 need nothing more of T, so each has a lemma of its own; that T is the
-- block length goes into rule 11 alone.
-- Assumes nothing.
use Prim.Native.Nat.{ℕ, ◌+◌, ◌*◌, ◌≤◌, ◌<◌, ◌∣◌}
use mathlib.Core.Path.{◌≡◌, sym, ap, ◌∙◌}
use mathlib.Core.Bool.{true}
use mathlib.Core.List.{List}
use native.Mathlib.Nat.{le-div_iff_mul-le, div-le_of_le-mul, le_of_dvd, mul-pos, mul-le-mul_left, lt_of_mul-lt-mul_right, mul-zero}
use native.Mathlib.Nat.{zero-add, pos_of_dvd_of_pos}
use native.Mathlib.Omega.{arith}
use lib.ListN.{length, get_or, length-map, get_or-map}
use Rattle.laws.specs.Choice.{one_if}
use Rattle.laws.specs.Sum.{sum_to}
use Rattle.laws.specs.Lists.{sum_of}
use Rattle.laws.proofs.Cases.{by_order}
use Rattle.laws.proofs.Each.{Each, each_at, at_each, each_of_map, pairs_at}
use Rattle.paper.specs.declared.Duty.{Duty}
use Rattle.paper.specs.declared.Run.{Run}
use Rattle.paper.specs.Duties.{duty, duty_at}
use Rattle.paper.specs.Words.{run, stop, slice, run_at}
use Rattle.paper.specs.Sa1.{lay, slices, sa1}
use Rattle.paper.specs.Limits.{Width, most_ticks}
use Rattle.paper.specs.Rules.{before, units_of}
use Rattle.paper.specs.Statements.{DutyRanged, RunRanged, Ranged, Apart, CommonDivisor, Meets}
use Rattle.paper.proofs.Passed.{Ranges}
use Rattle.table_laws.proofs.Rules.{InOrder, NotJoined, Wholes, before_when}
use Rattle.paper.proofs.Holding.{RowsApart}
use Rattle.plan_laws.proofs.Sa1.{Slice, Of, Follows, laid_between, follows, few_runs}
use Rattle.plan_laws.proofs.Sa1Shares.{units_laid, is_split, few_splits}

-- a whole slice is from 1 to T
pub slice_bounds : (t : ℕ) (x : Duty) → 1 ≤ t → DutyRanged x → x.period ∣ t * x.service → Slice t (slice t x)
unfolding slice
slice_bounds t x a d w = (
  (le-div_iff_mul-le d.period_least).1 (omega (arith, le_of_dvd (mul-pos a d.service_least) w)),
  div-le_of_le-mul x.period (omega (arith, mul-le-mul_left t d.service_most)),
)

-- a T that divides the periods is above 0, and no longer than the longest period may be
pub ticks_some : (t : ℕ) (ds : List Duty) → 1 ≤ length ds → Ranges ds → CommonDivisor t ds → 1 ≤ t
ticks_some t ds a r d = pos_of_dvd_of_pos (d 0 a) (r 0 a).period_least

pub ticks_within : (t : ℕ) (ds : List Duty) → 1 ≤ length ds → Ranges ds → CommonDivisor t ds → t ≤ most_ticks
ticks_within t ds a r d = omega (arith, r 0 a, le_of_dvd (r 0 a).period_least (d 0 a))

-- what the builder has made sure of: everything in range, the slices whole, and no more of them than the engines have units
pub record Fits (w : Width) (t m : ℕ) (ds : List Duty) : Type 0 where
  pub ticks_least : 1 ≤ t
  pub ticks_most : t ≤ most_ticks
  pub engines_least : 1 ≤ m
  pub engines_most : m ≤ w.most_engines
  pub duties_least : 1 ≤ length ds
  pub duties_most : length ds ≤ w.most_duties
  pub duty_ranged_lem : Ranges ds
  pub slices_whole : Wholes t ds
  pub slices_fit : sum_of (slices t ds) ≤ m * t

-- the slice of duty i in the list of all
slices_at : (t : ℕ) (ds : List Duty) (i : ℕ) → get_or (slices t ds) i 0 ≡ slice t (duty_at ds i)
unfolding slice
slices_at t ds i = rw (mul-zero t) at (get_or-map (slice t) ds i (duty 0 0))

-- a run that follows another is after it by (row, first unit)
before_after : (t : ℕ) (x y : Run) → Follows t x y → 1 ≤ x.length → 1 ≤ y.length → stop y ≤ t → before x y ≡ true
before_after t x y f a b c =
    let row : x.row.0 < y.row.0 + 1 = lt_of_mul-lt-mul_right t (omega (arith, f.after)) in
    before_when x y (omega arith) (λ e. omega (arith, f.after, ap (λ (r : ℕ). r * t) e))

module _ (w : Width) (t m : ℕ) (ds : List Duty) (f : Fits w t m ds) where
  -- every slice is from 1 to T
  pub all_slices : Each (Slice t) (slices t ds)
  all_slices =
      each_of_map (Slice t) (slice t) ds
      (at_each (λ x. Slice t (slice t x)) (duty 0 0) ds
      (λ i h. slice_bounds t (duty_at ds i) f.ticks_least (f.duty_ranged_lem i h) (f.slices_whole i h)))

  -- run k by itself
  run_laid : (k : ℕ) → k < length (sa1 t m ds).runs → Of t (slices t ds) 0 0 0 (run_at (sa1 t m ds).runs k)
  unfolding sa1
  run_laid k h = each_at (Of t (slices t ds) 0 0 0) (run 0 0 0 0) (lay t (slices t ds) 0 0 0)
      (laid_between t (slices t ds) 0 0 0 f.ticks_least all_slices) k h

  -- run k with an earlier one
  run_follows : (j k : ℕ) → j < k → k < length (sa1 t m ds).runs → Follows t (run_at (sa1 t m ds).runs j) (run_at (sa1 t m ds).runs k)
  unfolding sa1
  run_follows j k l h = pairs_at (Follows t) (run 0 0 0 0) (lay t (slices t ds) 0 0 0)
      (follows t (slices t ds) 0 0 0 f.ticks_least all_slices) j k l h

  -- every run is in range
  pub sa1_run_ranged : (k : ℕ) → k < length (sa1 t m ds).runs → RunRanged t m (length ds) (run_at (sa1 t m ds).runs k)
  unfolding sa1
  sa1_run_ranged k h =
      record {
        row_below = lt_of_mul-lt-mul_right t (omega (arith, run_laid k h, f.slices_fit));
        duty_below = omega (arith, run_laid k h, length-map ds (slice t));
        some_units = (run_laid k h).some_units;
        inside = (run_laid k h).inside;
      }

  -- no more runs than duties and engines less one
  pub sa1_few_runs : length (sa1 t m ds).runs + 1 ≤ length ds + m
  unfolding sa1
  sa1_few_runs =
      omega (
        arith,
        length-map ds (slice t),
        few_runs t m (slices t ds) 0 0 0 f.ticks_least all_slices
            (omega (arith, f.duties_least, length-map ds (slice t))) (omega (arith, f.slices_fit)),
      )

  -- fewer duties are split than there are engines
  pub sa1_few_splits : sum_to (length ds) (λ i. one_if (is_split (sa1 t m ds).runs i)) + 1 ≤ m
  unfolding sa1
  sa1_few_splits =
      rw (← length-map ds (slice t))
      (few_splits t m (slices t ds) f.ticks_least all_slices (omega (arith, f.duties_least, length-map ds (slice t))) f.slices_fit)

  -- the table is in form
  pub sa1_ranged : w.most_duties + w.most_engines ≤ w.most_runs + 1 → Ranged w (sa1 t m ds)
  unfolding sa1
  sa1_ranged room =
      record {
        ticks_least = f.ticks_least;
        ticks_most = f.ticks_most;
        engines_least = f.engines_least;
        engines_most = f.engines_most;
        duties_least = f.duties_least;
        duties_most = f.duties_most;
        runs_most = omega (arith, sa1_few_runs, f.duties_most, f.engines_most);
        duty_ranged_lem = f.duty_ranged_lem;
        run_ranged_lem = sa1_run_ranged;
      }

  -- rule 13
  pub sa1_in_order : InOrder (sa1 t m ds).runs
  sa1_in_order k h =
      before_after t _ _ (run_follows k (k + 1) (omega arith) h) (run_laid k (omega arith)).some_units (run_laid (k + 1) h).some_units
      (run_laid (k + 1) h).inside

  -- rule 14
  pub sa1_apart_in_row : RowsApart (sa1 t m ds).runs
  sa1_apart_in_row j k l h e u p q = omega (arith, (run_follows j k l h).after, ap (λ (r : ℕ). r * t) e)

  -- rule 15
  pub sa1_not_joined : NotJoined (sa1 t m ds).runs
  sa1_not_joined j k a b r d s =
      by_order j k (λ l. omega (arith, (run_follows j k l b).split d)) (λ l. omega (arith, (run_follows k j l a).split (sym d)))
      (λ e. omega (arith, (run_laid j a).some_units, ap (λ (i : ℕ). (run_at (sa1 t m ds).runs i).first) e))

  -- rule 16
  pub sa1_apart_of_duty : (j k : ℕ) → j < k → k < length (sa1 t m ds).runs → (run_at (sa1 t m ds).runs j).duty
      ≡ (run_at (sa1 t m ds).runs k).duty
      → ((run_at (sa1 t m ds).runs j).row.0 ≡ (run_at (sa1 t m ds).runs k).row.0 → ⊥)
      → Apart (run_at (sa1 t m ds).runs j) (run_at (sa1 t m ds).runs k)
  sa1_apart_of_duty j k l h d r u p q = omega (arith, (run_follows j k l h).split d)

  -- rule 17
  pub sa1_sums : (i : ℕ) → i < length (sa1 t m ds).duties → units_of (sa1 t m ds).runs i
      ≡ slice (sa1 t m ds).ticks (duty_at (sa1 t m ds).duties i)
  unfolding sa1
  sa1_sums i h = units_laid t (slices t ds) 0 0 0 i i f.ticks_least all_slices (zero-add i) ∙ slices_at t ds i

  -- all rules, where T divides every period
  pub sa1_meets : CommonDivisor t ds → Meets (sa1 t m ds)
  unfolding sa1
  sa1_meets c =
      record {
        block_length = c;
        slices_whole = f.slices_whole;
        in_order = sa1_in_order;
        apart_in_row = sa1_apart_in_row;
        not_joined = sa1_not_joined;
        apart_of_duty = sa1_apart_of_duty;
        sums_right = sa1_sums;
      }

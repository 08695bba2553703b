-- On how many engines duties have a schedule. With idle engines beside it a schedule is one on more engines too. A plan of the builder's
-- meets the rules, so its walk meets the duties. Where the slices are whole, the builder has a plan or gives 7 on each number of engines;
-- the one means that there is a schedule and the other that there is none. So the least number that does not get 7 is the least with a
-- schedule, and the other way round.
-- Assumes nothing.
use Prim.Native.Nat.{ℕ, ◌+◌, ◌*◌, ◌≤◌, ◌<◌, ◌∣◌}
use mathlib.Core.Path.{◌≡◌}
use mathlib.Core.List.{List}
use native.Mathlib.Omega.{arith}
use lib.Dec.{ltb}
use lib.ListN.{length}
use borrow.Author.Tests.{lt-ltb, le-ltb}
use Rattle.laws.specs.Choice.{pick, one_if}
use Rattle.laws.proofs.Cases.{lt_or_le}
use Rattle.laws.proofs.Sum.{sum_ext, sum_zero, sum_split}
use Rattle.paper.specs.declared.Duty.{Duty}
use Rattle.std.specs.Prelude.{None, Some}
use Rattle.paper.specs.Duties.{engine, duty_at, job_start, asked_in, same}
use Rattle.paper.specs.Words.{Table}
use Rattle.paper.specs.Sa1.{sa1}
use Rattle.paper.specs.Walk.{walk}
use Rattle.paper.specs.Schedule.{Schedule, given, served}
use Rattle.paper.specs.Capacity.{MeetsDuties, Possible, FewestEngines}
use Rattle.paper.specs.Limits.{small, most_engines}
use Rattle.paper.specs.Outcome.{refused, answer}
use Rattle.paper.specs.Wanted.{Wanted, wanted, duties_of, duty_set}
use Rattle.paper.specs.Builder.{length_meant, plan}
use Rattle.paper.proofs.Passed.{From}
use Rattle.paper.proofs.Capacity.{none_on_none}
use Rattle.walk_laws.proofs.Page.{walk_meets}
use Rattle.plan_laws.proofs.Planned.{length_duties, planned_sa1, planned_ranged, planned_meets}
use Rattle.plan_laws.proofs.Overload.{asked_slices, plan-overloaded, plan_impossible, WholeSlices, sliced_cases, LeastWithout7}

-- ---- more engines

-- a schedule on m engines, with idle ones beside them
abbrev widened : ℕ → Schedule → Schedule
widened m s e k = pick (ltb e.0 m) (s e k) None

given-widened : (m more : ℕ) (s : Schedule) (i k : ℕ) → given (m + more) (widened m s) i k ≡ given m s i k
unfolding given same
given-widened m more s i k =
    let on : ℕ → ℕ = λ e. one_if (same (widened m s (engine e) k) (Some i)) in
    omega (
      arith,
      sum_split m more on,
      sum_ext m on (λ e. one_if (same (s (engine e) k) (Some i))) (λ e l. rw (lt-ltb e m l)),
      sum_zero more (λ e. on (m + e)) (λ e l. rw (le-ltb (m + e) m (omega arith))),
    )

-- so what is possible on m engines is possible on more
pub more_possible : (m more : ℕ) (ds : List Duty) → Possible m ds → Possible (m + more) ds
unfolding served
more_possible m more ds p =
    let s = p.schedule in
    let w = widened m s in
    record {
      schedule = w;
      meets = record {
        one_engine = λ i k l. omega (arith, given-widened m more s i k, p.meets.one_engine i k l);
        in_time = λ i q l.
            let x = duty_at ds i in
            let first = job_start x q in
            let alike = sum_ext x.period (λ j. given (m + more) w i (first + j)) (λ j. given m s i (first + j))
            (λ j h. given-widened m more s i (first + j)) in
            omega (arith, alike, p.meets.in_time i q l);
      };
    }

-- ---- a plan

-- its walk meets the duties
pub walk_of_plan : (wish : ℕ) (x : Wanted) (t : Table) → plan wish x ≡ answer t → MeetsDuties x.engines (duty_set x) (walk t)
unfolding sa1
walk_of_plan wish x t h =
    let e = planned_sa1 wish x t h in
    rw e (walk_meets small (sa1 (length_meant wish (duty_set x)) x.engines (duty_set x)) (rw e at (planned_ranged wish x t h))
    (rw e at (planned_meets wish x t h)))

-- ---- the same duties on one number of engines and another

module _ (wish : ℕ) (ss ps : List ℕ) (s : WholeSlices wish ss ps) (m : ℕ) where
  -- on no engine there is none, for there is a duty, and it has some service
  none_on_0 : (k : ℕ) → k ≡ 0 → Possible k (duties_of ss ps) → ⊥
  none_on_0 k e y =
      let some : 0 < length (duties_of ss ps) = omega (arith, length_duties ss ps, s.taken.counts.duties) in
      none_on_none (duties_of ss ps) some (s.taken.ranges 0 some).service_least (rw e at y)

  -- a plan is a schedule, ..
  planned_possible : (k : ℕ) (t : Table) → plan wish (wanted k ss ps) ≡ answer t → Possible k (duties_of ss ps)
  planned_possible k t h = record { schedule = walk t; meets = walk_of_plan wish (wanted k ss ps) t h }

  -- .. and 7 is none
  none_on_7 : (k p : ℕ) → plan wish (wanted k ss ps) ≡ refused 7 p → Possible k (duties_of ss ps) → ⊥
  none_on_7 k p h = plan_impossible wish (wanted k ss ps) p h k (omega arith)

  -- where what the duties ask for in h ticks is no more than the engines have, 7 is not given
  pub enough_possible :
      (h : ℕ) → 0 < h → ((i : ℕ) → i < length (duties_of ss ps) → (duty_at (duties_of ss ps) i).period ∣ h) → From 1 most_engines m
      → asked_in h (duties_of ss ps) ≤ m * h → Possible m (duties_of ss ps)
  enough_possible h some divided few fit =
      let t = length_meant wish (duties_of ss ps) in
      sliced_cases wish m ss ps s few
      (λ c.
      let fits = asked_slices t m (duties_of ss ps) h some divided s.wholes fit in
      absurd (omega (arith, (plan-overloaded wish (wanted m ss ps) 0 c).above, fits)))
      (λ t c. planned_possible m t c)

  -- ---- the least number

  pub least_fewest : LeastWithout7 wish ss ps m → FewestEngines m (duties_of ss ps) × (m ≤ most_engines)
  least_fewest l = (
    record {
      possible = sliced_cases wish m ss ps s l.engines (λ h. absurd (l.not_7 0 h)) (λ t h. planned_possible m t h);
      none_below = λ k b. lt_or_le 0 k (λ a. none_on_7 k 0 (l.below_7 k a b)) (λ a. none_on_0 k (omega arith));
    },
    l.engines.1,
  )

  pub fewest_least : FewestEngines m (duties_of ss ps) × (m ≤ most_engines) → LeastWithout7 wish ss ps m
  fewest_least (f, few) = record {
    engines = (lt_or_le 0 m (λ a. a) (λ a. absurd (none_on_0 m (omega arith) f.possible)), few);
    not_7 = λ p h. none_on_7 m p h f.possible;
    below_7 = λ k a b. sliced_cases wish k ss ps s (omega arith) (λ h. h) (λ t h. absurd (f.none_below k b (planned_possible k t h)));
  }

-- Where the builder gives 7, no schedule whatever meets the duties. Take h, the periods' common multiple. A schedule that meets them on m
-- engines gives them C·(h/D) ticks each, m·h together at most (`meets_most`). A slice N is whole, so N·D = T·C, and h·N =
-- T·C·(h/D). So h
-- times the slices is T·m·h at most, and the slices are m·T at most: 7 would not have been given. T is any length for which the slices are
-- whole, and h any common multiple: who adds up the C/D by hand finds what the builder finds.
-- Assumes nothing.
use Prim.Native.Nat.{ℕ, ◌*◌, ◌/◌, ◌≤◌, ◌<◌, ◌∣◌}
use mathlib.Core.Path.{◌≡◌, refl, sym, ap, ◌∙◌}
use mathlib.Core.List.{List}
use native.Mathlib.Nat.{div-mul_cancel, le_of_mul-le-mul_left, mul-le-mul_left, mul-le-mul_right}
use native.Mathlib.Omega.{arith}
use lib.ListN.{length}
use Rattle.laws.specs.Sum.{sum_to}
use Rattle.laws.specs.Divisor.{lcm_of}
use Rattle.laws.specs.Lists.{sum_of}
use Rattle.laws.proofs.Cases.{lt_or_le}
use Rattle.laws.proofs.Sum.{sum_ext, sum_times, sum_map}
use Rattle.paper.specs.declared.Duty.{Duty}
use Rattle.paper.specs.Duties.{duty, duty_at, periods_of, asks, asked_in}
use Rattle.paper.specs.Words.{slice, Table}
use Rattle.paper.specs.Sa1.{slices, sa1}
use Rattle.paper.specs.Capacity.{Possible}
use Rattle.paper.specs.Limits.{most_engines}
use Rattle.paper.specs.Outcome.{refused, answer}
use Rattle.paper.specs.Wanted.{Wanted, wanted, duties_of, duty_set}
use Rattle.paper.specs.Builder.{length_meant, plan, build}
use Rattle.paper.specs.Statements.{CommonDivisor}
use Rattle.paper.proofs.Outcomes.{answered, refused_one, refused_apart}
use Rattle.paper.proofs.Passed.{From, Ranges}
use Rattle.paper.proofs.Capacity.{meets_most}
use Rattle.table_laws.proofs.Rules.{Wholes}
use Rattle.plan_laws.proofs.Periods.{periods_divide, multiple_some}
use Rattle.plan_laws.proofs.TakenWhen.{Taken}
use Rattle.plan_laws.proofs.PlanWhen.{ticks_for, Fitting, When, not_taken, not_common, slice_broken, too_much, planned, plan_when}
use Rattle.plan_laws.proofs.Planned.{WhenBuilt, not_planned, too_short, written, built_when}
use Rattle.plan_laws.proofs.Listed.{taken_listed}

-- h times a whole slice is T times what the duty asks for in h ticks
slice-asks : (t h : ℕ) (x : Duty) → x.period ∣ h → x.period ∣ t * x.service → h * slice t x ≡ t * asks h x
unfolding slice
slice-asks t h x d w =
    let n = t * x.service / x.period in
    let a = h / x.period in
    omega (arith, ap (λ y. y * n) (div-mul_cancel x.period d), ap (λ y. a * y) (div-mul_cancel x.period w))

-- so where all duties ask for no more than m engines have in h ticks, whole slices are no more than they have in a block
pub asked_slices :
    (t m : ℕ) (ds : List Duty) (h : ℕ) → 0 < h → ((i : ℕ) → i < length ds → (duty_at ds i).period ∣ h) → Wholes t ds → asked_in h ds ≤ m * h
    → sum_of (slices t ds) ≤ m * t
asked_slices t m ds h some divided w fit =
    let n = length ds in
    let each : ℕ → ℕ = λ i. slice t (duty_at ds i) in
    let asked : ℕ → ℕ = λ i. asks h (duty_at ds i) in
    let same : h * sum_to n each ≡ t * sum_to n asked =
    sym (sum_times n h each)
    ∙ sum_ext n (λ i. h * each i) (λ i. t * asked i) (λ i l. slice-asks t h (duty_at ds i) (divided i l) (w i l))
    ∙ sum_times n t asked in
    rw (sum_map (slice t) ds (duty 0 0)) (le_of_mul-le-mul_left (omega (arith, same, mul-le-mul_left t fit)) some)

-- and so they are where a schedule meets the duties
pub slices_most : (t m : ℕ) (ds : List Duty) → Ranges ds → Wholes t ds → Possible m ds → sum_of (slices t ds) ≤ m * t
slices_most t m ds r w p =
    let h = lcm_of (periods_of ds) in
    asked_slices t m ds h (multiple_some ds r) (periods_divide ds) w
    (meets_most m ds p.schedule p.meets h (periods_divide ds))

-- ---- 7 of the builder

-- it is given where the slices are whole and more than engines·T
pub record Overloaded (wish : ℕ) (x : Wanted) : Type 0 where
  pub taken : Taken x
  pub wholes : Wholes (ticks_for wish x) (duty_set x)
  pub above : x.engines * ticks_for wish x < sum_of (slices (ticks_for wish x) (duty_set x))

pub plan-overloaded : (wish : ℕ) (x : Wanted) (p : ℕ) → plan wish x ≡ refused 7 p → Overloaded wish x
plan-overloaded wish x p h = go ((plan_when wish x (refused 7 p)).0 h)
  where
    go : When wish x (refused 7 p) → Overloaded wish x
    go (not_taken n q f e) = refused_apart 7 p n q (λ d. omega (arith, (taken_listed x n q f).listed, d)) e
    go (not_common e c n) = refused_apart 7 p 24 0 (λ d. omega arith) e
    go (slice_broken d e c g l) = refused_apart 7 p 6 d (λ d. omega arith) e
    go (too_much e c g w l) = record { taken = c; wholes = w; above = l }
    go (planned e f) = answered _ 7 p (sym e)

-- where the call gives it the plan has it already: the call adds 8 alone
pub build-overloaded : (wish : ℕ) (x : Wanted) (room p : ℕ) → build wish x room ≡ refused 7 p → plan wish x ≡ refused 7 p
build-overloaded wish x room p h = go ((built_when wish x room (refused 7 p)).0 h)
  where
    go : WhenBuilt wish x room (refused 7 p) → plan wish x ≡ refused 7 p
    go (not_planned n q f e) = let z = refused_one {A = List ℕ} 7 p n q e in rw (z.0, z.1) f
    go (too_short t f l e) = refused_apart 7 p 8 _ (λ d. omega arith) e
    go (written t f l e) = answered _ 7 p (sym e)

-- so nothing meets these duties, on so many engines or on fewer
pub plan_impossible :
    (wish : ℕ) (x : Wanted) (p : ℕ) → plan wish x ≡ refused 7 p → (k : ℕ) → k ≤ x.engines → Possible k (duty_set x) → ⊥
plan_impossible wish x p h k few y =
    let o = plan-overloaded wish x p h in
    let t = ticks_for wish x in
    omega (arith, slices_most t k (duty_set x) o.taken.ranges o.wholes y, mul-le-mul_right t few, o.above)

-- ---- the same duties on other numbers of engines

-- none of 2 to 5, of 24 and of 6, whatever the engines: the duties are in range, T divides their periods, and their slices are whole
pub record WholeSlices (wish : ℕ) (ss ps : List ℕ) : Type 0 where
  pub taken : Taken (wanted 1 ss ps)
  pub divides : CommonDivisor (length_meant wish (duties_of ss ps)) (duties_of ss ps)
  pub wholes : Wholes (length_meant wish (duties_of ss ps)) (duties_of ss ps)

-- on 1 to 32 engines there is then 7 or a plan
pub sliced_cases :
    {P : Type 0} (wish m : ℕ) (ss ps : List ℕ) → WholeSlices wish ss ps → From 1 most_engines m
    → (plan wish (wanted m ss ps) ≡ refused 7 0 → P) → ((t : Table) → plan wish (wanted m ss ps) ≡ answer t → P) → P
sliced_cases wish m ss ps s r f g =
    let x = wanted m ss ps in
    let ds = duty_set x in
    let t = ticks_for wish x in
    let old = s.taken.counts in
    let c : Taken x = record {
      counts = record { engines = r; lengths = old.lengths; duties = old.duties };
      ranges = s.taken.ranges;
    } in
    lt_or_le (m * t) (sum_of (slices t ds))
    (λ l. f ((plan_when wish x (refused 7 0)).1 (too_much refl c s.divides s.wholes l)))
    (λ l.
    let fits : Fitting wish x = record { taken = c; divides = s.divides; wholes = s.wholes; fit = l } in
    g (sa1 t m ds) ((plan_when wish x (answer (sa1 t m ds))).1 (planned refl fits)))

-- the least number of engines, of 1 to 32, that the builder does not refuse with 7
pub record LeastWithout7 (wish : ℕ) (ss ps : List ℕ) (m : ℕ) : Type 0 where
  pub engines : From 1 most_engines m
  pub not_7 : (p : ℕ) → plan wish (wanted m ss ps) ≡ refused 7 p → ⊥
  pub below_7 : (k : ℕ) → 1 ≤ k → k < m → plan wish (wanted k ss ps) ≡ refused 7 0

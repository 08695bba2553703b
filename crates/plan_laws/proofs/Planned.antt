-- What the builder plans. It has passed every test, so it is SA1's table of duties that fit: in form, meeting the rules, accepted when
-- written as bytes, and read back as what was wanted. The builder's bytes are that table's, if there is room.
-- Assumes nothing.
use Prim.Native.Nat.{ℕ, ◌≤◌, ◌<◌}
use mathlib.Core.Path.{◌≡◌, refl, sym, ap, ◌∙◌}
use mathlib.Core.List.{List}
use mathlib.Core.Logic.{◌↔◌}
use native.Mathlib.Omega.{arith}
use lib.Dec.{ltb}
use lib.ListN.{length, get_or}
use borrow.Author.Tests.{lt-ltb, le-ltb, ltb-true, ltb-false}
use Rattle.laws.specs.Divisor.{gcd_of}
use Rattle.laws.proofs.Cases.{by_cases}
use Rattle.laws.proofs.Lists.{length-tab, get_or-tab, map-tab, tab-get_or}
use Rattle.paper.specs.declared.Duty.{Duty}
use Rattle.paper.specs.Duties.{duty, duty_at, services_of, periods_of}
use Rattle.paper.specs.Words.{block_length_of, Table}
use Rattle.paper.specs.Sa1.{sa1}
use Rattle.paper.specs.Outcome.{Outcome, refused, answer, and_then}
use Rattle.paper.specs.Limits.{small}
use Rattle.paper.specs.Bytes.{encode}
use Rattle.paper.specs.Wanted.{Wanted, wanted_of, duties_of, duty_set}
use Rattle.paper.specs.Builder.{plan, fitted, build}
use Rattle.paper.specs.Rules.{accepted}
use Rattle.paper.specs.Statements.{Ranged, Meets}
use Rattle.paper.proofs.Outcomes.{answered, answer_one}
use Rattle.paper.proofs.Passed.{Ranges}
use Rattle.table_laws.proofs.Accepted.{block_divides}
use Rattle.plan_laws.proofs.Sa1Table.{Fits, sa1_ranged, sa1_meets, ticks_some, ticks_within}
use Rattle.table_laws.proofs.AcceptedBytes.{meets_accepted}
use Rattle.plan_laws.proofs.PlanWhen.{ticks_for, Fitting, When, not_taken, not_common, slice_broken, too_much, planned, plan_when}

-- ---- T

-- the greatest is above 0 where a duty is in range
pub block_least : (ds : List Duty) → 1 ≤ length ds → Ranges ds → 1 ≤ block_length_of ds
block_least ds a r = ticks_some (block_length_of ds) ds a r (block_divides ds)

-- ---- the duties of the two lists

-- there are as many
pub length_duties : (ss ps : List ℕ) → length (duties_of ss ps) ≡ length ss
unfolding duties_of
length_duties ss ps = length-tab _ _

-- their services are the one list
pub services_back : (ss ps : List ℕ) → services_of (duties_of ss ps) ≡ ss
unfolding duties_of
services_back ss ps = map-tab (λ x. x.service) (length ss) (λ d. duty (get_or ss d 0) (get_or ps d 0)) ∙ tab-get_or ss 0

-- and their periods the other
pub periods_back : (ss ps : List ℕ) → length ss ≡ length ps → periods_of (duties_of ss ps) ≡ ps
unfolding duties_of
periods_back ss ps e = map-tab (λ x. x.period) (length ss) (λ d. duty (get_or ss d 0) (get_or ps d 0)) ∙ rw e (tab-get_or ps 0)

-- ---- the plan

-- duties that pass every test fit
fitting_fits : (wish : ℕ) (x : Wanted) → Fitting wish x → Fits small (ticks_for wish x) x.engines (duty_set x)
fitting_fits wish x f =
    let ds = duty_set x in
    let c = f.taken.counts in
    let n = length_duties x.services x.periods in
    let some : 1 ≤ length ds = omega (arith, n, c.duties) in
    record {
      ticks_least = ticks_some (ticks_for wish x) ds some f.taken.ranges f.divides;
      ticks_most = ticks_within (ticks_for wish x) ds some f.taken.ranges f.divides;
      engines_least = c.engines.0;
      engines_most = c.engines.1;
      duties_least = some;
      duties_most = omega (arith, n, c.duties);
      duty_ranged_lem = f.taken.ranges;
      slices_whole = f.wholes;
      slices_fit = f.fit;
    }

-- there is a plan exactly where the duties pass every test, and it is SA1's
pub planned_when :
    (wish : ℕ) (x : Wanted) (t : Table)
    → (plan wish x ≡ answer t) ↔ (Fitting wish x × (t ≡ sa1 (ticks_for wish x) x.engines (duty_set x)))
planned_when wish x t =
    ((λ h. go ((plan_when wish x (answer t)).0 h)), (λ f. (plan_when wish x (answer t)).1 (planned (ap answer f.1) f.0)))
  where
    go : When wish x (answer t) → Fitting wish x × (t ≡ sa1 (ticks_for wish x) x.engines (duty_set x))
    go (not_taken n p h q) = answered t n p q
    go (not_common q c n) = answered t 24 0 q
    go (slice_broken d q c g l) = answered t 6 d q
    go (too_much q c g w n) = answered t 7 0 q
    go (planned q f) = (f, answer_one t _ q)

module _ (wish : ℕ) (x : Wanted) (t : Table) (h : plan wish x ≡ answer t) where
  -- the plan is SA1's
  pub planned_sa1 : t ≡ sa1 (ticks_for wish x) x.engines (duty_set x)
  planned_sa1 = ((planned_when wish x t).0 h).1

  -- of duties that fit
  pub planned_fits : Fits small (ticks_for wish x) x.engines (duty_set x)
  planned_fits = fitting_fits wish x ((planned_when wish x t).0 h).0

  -- it is in form
  pub planned_ranged : Ranged small t
  planned_ranged = rw planned_sa1 (sa1_ranged small (ticks_for wish x) x.engines (duty_set x) planned_fits (omega arith))

  -- and meets the rules
  pub planned_meets : Meets t
  planned_meets =
      rw planned_sa1 (sa1_meets small (ticks_for wish x) x.engines (duty_set x) planned_fits ((planned_when wish x t).0 h).0.divides)

  -- its bytes are accepted and read as it
  pub planned_accepted : accepted (encode small t) ≡ answer t
  planned_accepted = meets_accepted t planned_ranged planned_meets

  -- its T is the length that was meant
  pub planned_ticks : t.ticks ≡ ticks_for wish x
  unfolding sa1
  planned_ticks = ap (λ (y : Table). y.ticks) planned_sa1

  -- it is for what was wanted: the engines, the services and the periods
  pub planned_wanted : wanted_of t.engines t.duties ≡ x
  unfolding sa1
  planned_wanted =
      let c = ((planned_when wish x t).0 h).0.taken.counts in
      let m : t.engines ≡ x.engines = ap (λ (y : Table). y.engines) planned_sa1 in
      let s : services_of t.duties ≡ x.services = ap (λ (y : Table). services_of y.duties) planned_sa1 ∙ services_back x.services
      x.periods in
      let p : periods_of t.duties ≡ x.periods =
      ap (λ (y : Table). periods_of y.duties) planned_sa1 ∙ periods_back x.services x.periods c.lengths in
      λ i. record { engines = m i; services = s i; periods = p i }

-- ---- the bytes

-- "No.", "When" and "Place" of refusal 8, which comes after 1 to 5, 24, 6 and 7, and when bytes are written
pub data WhenBuilt (wish : ℕ) (x : Wanted) (room : ℕ) (o : Outcome (List ℕ)) : Type 0 where
  -- 1 to 5, 24, 6 and 7
  not_planned : (n p : ℕ) → plan wish x ≡ refused n p → o ≡ refused n p → WhenBuilt wish x room o
  -- 8 buffer shorter than the table, at the bytes needed
  too_short : (t : Table) → plan wish x ≡ answer t → room < length (encode small t) → o ≡ refused 8 (length (encode small t))
      → WhenBuilt wish x room o
  -- else the table's bytes
  written : (t : Table) → plan wish x ≡ answer t → length (encode small t) ≤ room → o ≡ answer (encode small t) → WhenBuilt wish x room o

module _ (wish : ℕ) (x : Wanted) (room : ℕ) where
  -- every outcome has its condition
  built_tells : (o : Outcome (List ℕ)) → build wish x room ≡ o → WhenBuilt wish x room o
  built_tells o = go (plan wish x) refl
    where
      go : (y : Outcome Table) → plan wish x ≡ y → and_then y (λ t. fitted room (encode small t)) ≡ o → WhenBuilt wish x room o
      go (refused n p) e q = not_planned n p e (sym q)
      go (answer t) e q =
          by_cases (ltb room (length (encode small t)))
          (λ l. too_short t e (ltb-true room (length (encode small t)) l) (sym q ∙ rw l))
          (λ l. written t e (ltb-false room (length (encode small t)) l) (sym q ∙ rw l))

  -- and comes about where that holds
  told_built : (o : Outcome (List ℕ)) → WhenBuilt wish x room o → build wish x room ≡ o
  told_built o (not_planned n p h q) = rw h (sym q)
  told_built o (too_short t h l q) = rw (h, lt-ltb room (length (encode small t)) l) (sym q)
  told_built o (written t h l q) = rw (h, le-ltb room (length (encode small t)) l) (sym q)

  -- the builder's outcome is the one whose condition holds
  pub built_when : (o : Outcome (List ℕ)) → (build wish x room ≡ o) ↔ WhenBuilt wish x room o
  built_when o = (built_tells o, told_built o)

-- bytes that are built are those of the plan
pub record Built (wish : ℕ) (x : Wanted) (room : ℕ) (b : List ℕ) : Type 0 where
  pub table : Table
  pub plans : plan wish x ≡ answer table
  pub bytes : encode small table ≡ b
  pub fits : length b ≤ room

pub built : (wish : ℕ) (x : Wanted) (room : ℕ) (b : List ℕ) → build wish x room ≡ answer b → Built wish x room b
built wish x room b h = go ((built_when wish x room (answer b)).0 h)
  where
    go : WhenBuilt wish x room (answer b) → Built wish x room b
    go (not_planned n p f q) = answered b n p q
    go (too_short t f l q) = answered b 8 (length (encode small t)) q
    go (written t f l q) =
        let e = answer_one b (encode small t) q in
        record { table = t; plans = f; bytes = sym e; fits = rw e l }

-- they are accepted and read as the plan
pub built-accepted :
    (wish : ℕ) (x : Wanted) (room : ℕ) (b : List ℕ) (h : build wish x room ≡ answer b)
    → accepted b ≡ answer (built wish x room b h).table
built-accepted wish x room b h =
    let r = built wish x room b h in
    rw r.bytes at (planned_accepted wish x r.table r.plans)

-- ---- the duties of two lists, one by one

-- duty i has the entries at i
pub duty_is : (ss ps : List ℕ) (i : ℕ) → i < length ss → duty_at (duties_of ss ps) i ≡ duty (get_or ss i 0) (get_or ps i 0)
unfolding duties_of
duty_is ss ps i h = get_or-tab (length ss) (λ d. duty (get_or ss d 0) (get_or ps d 0)) (duty 0 0) i h

-- their block length is the greatest common divisor of the periods
pub block_length_is : (ss ps : List ℕ) → length ss ≡ length ps → block_length_of (duties_of ss ps) ≡ gcd_of ps
unfolding block_length_of
block_length_is ss ps e = ap gcd_of (periods_back ss ps e)

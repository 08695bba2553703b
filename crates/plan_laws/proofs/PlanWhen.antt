-- When the builder plans what was taken, and when it refuses with 24, 6 or 7. Each of its tests decides one of the document's conditions,
-- and it goes down the tests in order, so each outcome comes about exactly where the earlier conditions are clear and its own holds.
-- Assumes nothing.
use Prim.Native.Nat.{ℕ, ◌*◌, ◌≤◌, ◌<◌}
use mathlib.Core.Path.{◌≡◌, refl, sym, ap, ◌∙◌}
use mathlib.Core.List.{List}
use mathlib.Core.Logic.{◌↔◌}
use lib.Dec.{ltb}
use lib.ListN.{length}
use borrow.Author.Tests.{lt-ltb, le-ltb, ltb-true, ltb-false}
use Rattle.laws.specs.Choice.{pick}
use Rattle.laws.specs.Lists.{sum_of}
use Rattle.laws.proofs.Cases.{by_cases}
use Rattle.laws.proofs.Decides.{Decides, Not, Lowest, lowest_found, found_lowest}
use Rattle.paper.specs.declared.Duty.{Duty}
use Rattle.paper.specs.Duties.{duty_at}
use Rattle.paper.specs.Words.{block_length_of, undivided, whole, Table}
use Rattle.paper.specs.Sa1.{slices, sa1}
use Rattle.paper.specs.Outcome.{Outcome, refused, answer, and_then}
use Rattle.paper.specs.Wanted.{Wanted, duty_set, taken}
use Rattle.paper.specs.Builder.{bad_slice, plan_at, length_meant, plan_for, plan}
use Rattle.paper.specs.Statements.{CommonDivisor}
use Rattle.table_laws.proofs.Rules.{Whole, Wholes, divided_when, undivided_when, whole_decides}
use Rattle.table_laws.proofs.Accepted.{slices_met, block_divides}
use Rattle.plan_laws.proofs.TakenWhen.{Taken, takes, taken_told}

-- the greatest block length for what is wanted, and the one that is meant by a wish
abbrev pub block_of : Wanted → ℕ
block_of x = block_length_of (duty_set x)

abbrev pub ticks_for : ℕ → Wanted → ℕ
ticks_for wish x = length_meant wish (duty_set x)

-- none of 1 to 5, of 24 and of 6, and the slices are no more than the engines have units
pub record Fitting (wish : ℕ) (x : Wanted) : Type 0 where
  pub taken : Taken x
  pub divides : CommonDivisor (ticks_for wish x) (duty_set x)
  pub wholes : Wholes (ticks_for wish x) (duty_set x)
  pub fit : sum_of (slices (ticks_for wish x) (duty_set x)) ≤ x.engines * ticks_for wish x

-- "No.", "When" and "Place" of refusals 24, 6 and 7, which come after 1 to 5 in this order, and when there is a plan
pub data When (wish : ℕ) (x : Wanted) (o : Outcome Table) : Type 0 where
  -- 1 to 5
  not_taken : (n p : ℕ) → taken x ≡ refused n p → o ≡ refused n p → When wish x o
  -- 24 the wanted length does not divide every period
  not_common : o ≡ refused 24 0 → Taken x → Not (CommonDivisor (ticks_for wish x) (duty_set x)) → When wish x o
  -- 6 a slice not whole, at the lowest duty
  slice_broken :
      (d : ℕ) → o ≡ refused 6 d → Taken x → CommonDivisor (ticks_for wish x) (duty_set x)
      → Lowest (Whole (ticks_for wish x) (duty_set x)) (length (duty_set x)) d → When wish x o
  -- 7 the slices add up to more than engines·T
  too_much :
      o ≡ refused 7 0 → Taken x → CommonDivisor (ticks_for wish x) (duty_set x) → Wholes (ticks_for wish x) (duty_set x)
      → x.engines * ticks_for wish x < sum_of (slices (ticks_for wish x) (duty_set x)) → When wish x o
  -- else SA1's table
  planned : o ≡ answer (sa1 (ticks_for wish x) x.engines (duty_set x)) → Fitting wish x → When wish x o

-- ---- one outcome for one condition

module _ (wish : ℕ) (x : Wanted) where
  -- the engines, the duties and T
  abbrev m : ℕ
  m = x.engines

  abbrev ds : List Duty
  ds = duty_set x

  abbrev t : ℕ
  t = ticks_for wish x

  slice_decides : (d : ℕ) → Decides (whole t (duty_at ds d)) (Whole t ds d)
  slice_decides d = whole_decides t (duty_at ds d)

  -- what comes after 24
  after_common : (o : Outcome Table) → Taken x → CommonDivisor t ds → o ≡ plan_at t m ds → When wish x o
  unfolding plan_at
  after_common o c g q =
      by_cases (ltb (bad_slice t ds) (length ds))
      (λ h. slice_broken (bad_slice t ds) (q ∙ rw h) c g (lowest_found slice_decides (length ds) h))
      (λ h.
      let w = (slices_met t ds).0 h in
      by_cases (ltb (m * t) (sum_of (slices t ds)))
      (λ k. too_much (q ∙ rw (h, k)) c g w (ltb-true (m * t) (sum_of (slices t ds)) k))
      (λ k. planned (q ∙ rw (h, k)) (record { taken = c; divides = g; wholes = w; fit = ltb-false (m * t) (sum_of (slices t ds)) k })))

  -- what comes after 5
  after_taken : (o : Outcome Table) → Taken x → o ≡ plan_for t m ds → When wish x o
  after_taken o c q =
      by_cases (undivided t ds)
      (λ h. not_common (q ∙ rw h) c ((undivided_when t ds).0 h))
      (λ h. after_common o c ((divided_when t ds).0 h) (q ∙ rw h))

  -- every outcome has its condition, ..
  plan_tells : (o : Outcome Table) → plan wish x ≡ o → When wish x o
  unfolding plan
  plan_tells o = go (taken x) refl
    where
      go : (y : Outcome (List Duty)) → taken x ≡ y → and_then y (λ l. plan_for (length_meant wish l) m l) ≡ o → When wish x o
      go (refused n p) e q = not_taken n p e (sym q)
      go (answer l) e q =
          let z = taken_told x l e in
          after_taken o z.0 (sym q ∙ ap (λ (k : List Duty). plan_for (length_meant wish k) m k) z.1)

  -- past 5 there is a block length, ..
  pub past_taken : Taken x → plan wish x ≡ plan_for t m ds
  unfolding plan
  past_taken c = rw (takes x c)

  -- .. refused with 24 or gone on with
  pub past_common : Taken x → CommonDivisor t ds → plan wish x ≡ plan_at t m ds
  past_common c g = past_taken c ∙ rw ((divided_when t ds).1 g)

  past_slices :
      Taken x → CommonDivisor t ds → Wholes t ds
      → plan wish x ≡ pick (ltb (m * t) (sum_of (slices t ds))) (refused 7 0) (answer (sa1 t m ds))
  unfolding plan_at
  past_slices c g w = past_common c g ∙ rw ((slices_met t ds).1 w)

  -- a slice that is not whole is met first
  bad_slice_lem : (d : ℕ) → Lowest (Whole t ds) (length ds) d → plan_at t m ds ≡ refused 6 d
  unfolding plan_at
  bad_slice_lem d l = rw (found_lowest slice_decides (length ds) d l, lt-ltb d (length ds) l.0)

  -- .. and comes about where that holds
  told_plan : (o : Outcome Table) → When wish x o → plan wish x ≡ o
  unfolding plan
  told_plan o (not_taken n p h q) = rw h (sym q)
  told_plan o (not_common q c n) = past_taken c ∙ rw ((undivided_when t ds).1 n) (sym q)
  told_plan o (slice_broken d q c g l) = past_common c g ∙ bad_slice_lem d l ∙ sym q
  told_plan o (too_much q c g w h) = past_slices c g w ∙ rw (lt-ltb (m * t) (sum_of (slices t ds)) h) (sym q)
  told_plan o (planned q f) =
      past_slices f.taken f.divides f.wholes ∙ rw (le-ltb (m * t) (sum_of (slices t ds)) f.fit) (sym q)

  -- the builder's outcome is the one whose condition holds
  pub plan_when : (o : Outcome Table) → (plan wish x ≡ o) ↔ When wish x o
  plan_when o = (plan_tells o, told_plan o)

-- the greatest common divisor divides every period, so a wish of 0 never gets 24, and the plan is document 01's
pub plan_greatest : (x : Wanted) → plan 0 x ≡ and_then (taken x) (λ ds. plan_at (block_length_of ds) x.engines ds)
unfolding plan
plan_greatest x = go (taken x)
  where
    go : (y : Outcome (List Duty)) → and_then y (λ l. plan_for (block_length_of l) x.engines l)
        ≡ and_then y (λ l. plan_at (block_length_of l) x.engines l)
    go (refused n p) = refl
    go (answer l) = rw ((divided_when (block_length_of l) l).1 (block_divides l))

-- ---- 6 and what follows it, by any block length, for what goes through the tests one by one

module _ (t m : ℕ) (ds : List Duty) (d : ℕ) (e : d ≡ bad_slice t ds) where
  -- 6 and 7 in their order, by the duty that a search has found
  plan_by :
      plan_at t m ds
      ≡ pick (ltb d (length ds)) (refused 6 d) (pick (ltb (m * t) (sum_of (slices t ds))) (refused 7 0) (answer (sa1 t m ds)))
  unfolding plan_at
  plan_by = rw e

  pub slice_refused : d < length ds → plan_at t m ds ≡ refused 6 d
  slice_refused h = plan_by ∙ rw (lt-ltb d (length ds) h)

  pub slices_taken : length ds ≤ d → plan_at t m ds ≡ pick (ltb (m * t) (sum_of (slices t ds))) (refused 7 0) (answer (sa1 t m ds))
  slices_taken h = plan_by ∙ rw (le-ltb d (length ds) h)

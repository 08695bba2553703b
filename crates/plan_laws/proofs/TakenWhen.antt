-- When what is wanted is taken, and when it is refused with 1 to 5, and at which place. Each test decides one of the document's conditions,
-- and they are gone through in order, so each outcome comes about exactly where the earlier conditions are clear and its own holds.
-- Assumes nothing.
use Prim.Native.Nat.{ℕ, ◌≤◌, ◌<◌}
use mathlib.Core.Path.{◌≡◌, refl, sym, ap, ◌∙◌}
use mathlib.Core.Bool.{true, false}
use mathlib.Core.List.{List}
use mathlib.Core.Logic.{◌↔◌}
use lib.Dec.{ltb, eqb}
use lib.ListN.{length}
use borrow.Author.Tests.{lt-ltb, le-ltb, eqb-true, eq-eqb, eqb-false, ne_eqb}
use Rattle.laws.specs.Choice.{pick}
use Rattle.laws.proofs.Cases.{by_cases}
use Rattle.laws.proofs.Decides.{Decides, Not, Lowest, fails, failed, lowest_found, found_lowest, none_found}
use Rattle.paper.specs.declared.Duty.{Duty}
use Rattle.paper.specs.Duties.{duty_at}
use Rattle.paper.specs.Outcome.{Outcome, refused, answer}
use Rattle.paper.specs.Limits.{small, most_engines, most_duties, most_ticks}
use Rattle.paper.specs.Bytes.{within, duty_ranged}
use Rattle.paper.specs.Wanted.{Wanted, duty_set, bad_range, range_fault, in_range, taken}
use Rattle.paper.proofs.Outcomes.{answered, answer_one}
use Rattle.paper.proofs.Passed.{From, InRange, Ranges, within-told, within_decides, duty_decides}

-- ---- the conditions

-- none of 1 to 3
pub record Counts (x : Wanted) : Type 0 where
  pub engines : From 1 small.most_engines x.engines
  pub lengths : length x.services ≡ length x.periods
  pub duties : From 1 small.most_duties (length x.services)

-- none of 1 to 5
pub record Taken (x : Wanted) : Type 0 where
  pub counts : Counts x
  pub ranges : Ranges (duty_set x)

-- "No.", "When" and "Place" of refusals 1 to 5, and when the duties are taken. The lowest number applies: none of the earlier does
pub data WhenTaken (x : Wanted) (o : Outcome (List Duty)) : Type 0 where
  -- 1 engines outside 1 to 32
  engines_out : o ≡ refused 1 0 → Not (From 1 small.most_engines x.engines) → WhenTaken x o
  -- 2 the two lists differ in length
  lengths_differ : o ≡ refused 2 0 → From 1 small.most_engines x.engines → Not (length x.services ≡ length x.periods)
      → WhenTaken x o
  -- 3 duties outside 1 to 64
  duties_out :
      o ≡ refused 3 0 → From 1 small.most_engines x.engines → length x.services ≡ length x.periods
      → Not (From 1 small.most_duties (length x.services)) → WhenTaken x o
  -- 4 a period out of range, at the first duty with 4 or 5
  period_out :
      (d : ℕ) → o ≡ refused 4 d → Counts x → Lowest (InRange (duty_set x)) (length (duty_set x)) d
      → Not (From 1 most_ticks (duty_at (duty_set x) d).period) → WhenTaken x o
  -- 5 a service out of range, at the first duty with 4 or 5: its period is in range
  service_out :
      (d : ℕ) → o ≡ refused 5 d → Counts x → Lowest (InRange (duty_set x)) (length (duty_set x)) d
      → From 1 most_ticks (duty_at (duty_set x) d).period → WhenTaken x o
  -- else the duties
  all_taken : o ≡ answer (duty_set x) → Taken x → WhenTaken x o

-- ---- one outcome for one condition

module _ (x : Wanted) where
  -- the duties, and how many there are in each list
  abbrev ds : List Duty
  ds = duty_set x

  abbrev ns : ℕ
  ns = length x.services

  abbrev np : ℕ
  np = length x.periods

  -- the tests
  engines_decides : Decides (within 1 small.most_engines x.engines) (From 1 small.most_engines x.engines)
  engines_decides = within_decides 1 small.most_engines x.engines

  duties_decides : Decides (within 1 small.most_duties ns) (From 1 small.most_duties ns)
  duties_decides = within_decides 1 small.most_duties ns

  range_decides : (d : ℕ) → Decides (duty_ranged (duty_at ds d)) (InRange ds d)
  range_decides d = duty_decides (duty_at ds d)

  -- what comes after 3
  after_counts : (o : Outcome (List Duty)) → Counts x → o ≡ in_range ds → WhenTaken x o
  unfolding in_range
  after_counts o c q =
      by_cases (ltb (bad_range ds) (length ds))
      (λ h.
      let l = lowest_found range_decides (length ds) h in
      let p = (duty_at ds (bad_range ds)).period in
      by_cases (within 1 most_ticks p)
      (λ k. service_out (bad_range ds) (q ∙ rw (h, k)) c l (within-told 1 most_ticks p k))
      (λ k. period_out (bad_range ds) (q ∙ rw (h, k)) c l (fails (within 1 most_ticks p) (within_decides 1 most_ticks p) k)))
      (λ h. all_taken (q ∙ rw h) (record { counts = c; ranges = (none_found range_decides (length ds)).0 h }))

  -- every outcome has its condition, ..
  taken_tells : (o : Outcome (List Duty)) → taken x ≡ o → WhenTaken x o
  unfolding taken
  taken_tells o q =
      let e1 = within 1 small.most_engines x.engines in
      let e2 = eqb ns np in
      let e3 = within 1 small.most_duties ns in
      by_cases e1 (λ a. by_cases e2 (λ b. by_cases e3
      (λ c. after_counts o (record { engines = engines_decides.0 a; lengths = eqb-true ns np b; duties = duties_decides.0 c })
      (sym q ∙ rw (a, b, c)))
      (λ c. duties_out (sym q ∙ rw (a, b, c)) (engines_decides.0 a) (eqb-true ns np b) (fails e3 duties_decides c)))
      (λ b. lengths_differ (sym q ∙ rw (a, b)) (engines_decides.0 a) (eqb-false ns np b)))
      (λ a. engines_out (sym q ∙ rw a) (fails e1 engines_decides a))

  -- past 3 the duties are looked at
  past_counts : Counts x → taken x ≡ in_range ds
  unfolding taken
  past_counts c = rw (engines_decides.1 c.engines, eq-eqb ns np c.lengths, duties_decides.1 c.duties)

  -- a duty out of range is met first
  bad_range_lem : (d : ℕ) → Lowest (InRange ds) (length ds) d → in_range ds
      ≡ pick (within 1 most_ticks (duty_at ds d).period) (refused 5 d) (refused 4 d)
  unfolding in_range
  bad_range_lem d l = rw (found_lowest range_decides (length ds) d l, lt-ltb d (length ds) l.0)

  -- where none is, the duties are taken
  pub takes : Taken x → taken x ≡ answer ds
  unfolding in_range
  takes c = past_counts c.counts ∙ rw ((none_found range_decides (length ds)).1 c.ranges)

  -- .. and comes about where that holds
  told_taken : (o : Outcome (List Duty)) → WhenTaken x o → taken x ≡ o
  unfolding taken
  told_taken o (engines_out q n) = rw (failed (within 1 small.most_engines x.engines) engines_decides n) (sym q)
  told_taken o (lengths_differ q a n) = rw (engines_decides.1 a, ne_eqb ns np n) (sym q)
  told_taken o (duties_out q a b n) = rw (engines_decides.1 a, eq-eqb ns np b, failed (within 1 small.most_duties ns) duties_decides n)
      (sym q)
  told_taken o (period_out d q c l n) = past_counts c ∙ bad_range_lem d l ∙ rw
      (failed (within 1 most_ticks (duty_at ds d).period) (within_decides 1 most_ticks (duty_at ds d).period) n) (sym q)
  told_taken o (service_out d q c l p) =
      past_counts c ∙ bad_range_lem d l ∙ rw ((within_decides 1 most_ticks (duty_at ds d).period).1 p) (sym q)
  told_taken o (all_taken q c) = takes c ∙ sym q

  -- the outcome is the one whose condition holds
  pub taken_when : (o : Outcome (List Duty)) → (taken x ≡ o) ↔ WhenTaken x o
  taken_when o = (taken_tells o, told_taken o)

  -- what is taken is the set, and none of 1 to 5 applies
  pub taken_told : (l : List Duty) → taken x ≡ answer l → Taken x × (l ≡ ds)
  taken_told l h = go (taken_tells (answer l) h)
    where
      go : WhenTaken x (answer l) → Taken x × (l ≡ ds)
      go (engines_out q n) = answered l 1 0 q
      go (lengths_differ q a n) = answered l 2 0 q
      go (duties_out q a b n) = answered l 3 0 q
      go (period_out d q c e n) = answered l 4 d q
      go (service_out d q c e n) = answered l 5 d q
      go (all_taken q c) = (c, answer_one l ds q)

  -- ---- the same for what goes through the tests one by one

  pub engines_refused : within 1 most_engines x.engines ≡ false → taken x ≡ refused 1 0
  engines_refused h = told_taken (refused 1 0) (engines_out refl (fails (within 1 most_engines x.engines) engines_decides h))

  module _ (m : within 1 most_engines x.engines ≡ true) where
    pub lengths_refused : Not (ns ≡ np) → taken x ≡ refused 2 0
    lengths_refused h = told_taken (refused 2 0) (lengths_differ refl (engines_decides.0 m) h)

    pub duties_refused : ns ≡ np → within 1 most_duties ns ≡ false → taken x ≡ refused 3 0
    duties_refused e h =
        told_taken (refused 3 0) (duties_out refl (engines_decides.0 m) e (fails (within 1 most_duties ns) duties_decides h))

    -- past 3
    pub counts_good : ns ≡ np → within 1 most_duties ns ≡ true → Counts x
    counts_good e h = record { engines = engines_decides.0 m; lengths = e; duties = duties_decides.0 h }

  module _ (c : Counts x) (d : ℕ) (e : d ≡ bad_range ds) where
    -- 4 or 5, of the first duty that has either
    pub range_refused : d < length ds → taken x ≡ range_fault ds d
    range_refused h =
        let found : ltb (bad_range ds) (length ds) ≡ true = ap (λ (k : ℕ). ltb k (length ds)) (sym e) ∙ lt-ltb d (length ds) h in
        past_counts c ∙ bad_range_lem (bad_range ds) (lowest_found range_decides (length ds) found) ∙ ap (range_fault ds) (sym e)

    -- else the duties
    pub ranges_taken : length ds ≤ d → taken x ≡ answer ds
    ranges_taken h =
        let none : ltb (bad_range ds) (length ds) ≡ false = ap (λ (k : ℕ). ltb k (length ds)) (sym e) ∙ le-ltb d (length ds) h in
        takes (record { counts = c; ranges = (none_found range_decides (length ds)).0 none })

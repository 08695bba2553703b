-- What is wanted of a builder, and refusals 1 to 5, with which every builder begins. "The lowest number applies, save that 4 and 5 are
-- looked for duty by duty, 4 before 5."
use Rattle.std.specs.Prelude.{ℕ, not, List, ltb, eqb, length, get_or}
use Rattle.laws.specs.Choice.{pick}
use Rattle.laws.specs.Search.{first}
use Rattle.laws.specs.Lists.{tab}
use Rattle.paper.specs.declared.Duty.{Duty}
use Rattle.paper.specs.Duties.{duty, duty_at, services_of, periods_of}
use Rattle.paper.specs.Outcome.{Outcome, refused, answer}
use Rattle.paper.specs.Limits.{most_engines, most_duties, most_ticks}
use Rattle.paper.specs.Bytes.{within, duty_ranged}

-- so many engines for the duties of two lists: "Services and periods come as two lent lists of 32-bit numbers."
pub record Wanted : Type 0 where
  pub engines : ℕ
  pub services : List ℕ
  pub periods : List ℕ

abbrev pub wanted : ℕ → List ℕ → List ℕ → Wanted
wanted m ss ps = record { engines = m; services = ss; periods = ps }

-- what is wanted of a list of duties
abbrev pub wanted_of : ℕ → List Duty → Wanted
wanted_of m ds = wanted m (services_of ds) (periods_of ds)

-- the duties of two lists
unfoldable pub duties_of : List ℕ → List ℕ → List Duty
duties_of ss ps = tab (length ss) (λ d. duty (get_or ss d 0) (get_or ps d 0))

abbrev pub duty_set : Wanted → List Duty
duty_set x = duties_of x.services x.periods

-- 4 "a period out of range", 5 "a service out of range", at the first duty that has either
abbrev pub bad_range : List Duty → ℕ
bad_range ds = first (λ d. not (duty_ranged (duty_at ds d))) (length ds)

abbrev pub range_fault : {A : Type 0} → List Duty → ℕ → Outcome A
range_fault ds d = pick (within 1 most_ticks (duty_at ds d).period) (refused 5 d) (refused 4 d)

unfoldable pub in_range : List Duty → Outcome (List Duty)
in_range ds = pick (ltb (bad_range ds) (length ds)) (range_fault ds (bad_range ds)) (answer ds)

-- 1 "engines outside 1 to 32", 2 "the two lists differ in length", 3 "duties outside 1 to 64", then 4 and 5; else the duties
unfoldable pub taken : Wanted → Outcome (List Duty)
taken x =
    pick (not (within 1 most_engines x.engines)) (refused 1 0)
    (pick (not (eqb (length x.services) (length x.periods))) (refused 2 0)
    (pick (not (within 1 most_duties (length x.services))) (refused 3 0) (in_range (duty_set x))))

-- Document 01, "Words", what is served and what serves: duties with their jobs, engines, and what an engine has at a tick.
-- Nothing here knows of blocks, rows or tables.
use Rattle.std.specs.Prelude.{ℕ, ◌+◌, ◌*◌, ◌/◌, Bool, true, false, Option, None, Some, List, map, eqb, length, get_or}
use Rattle.laws.specs.Sum.{sum_to}
use Rattle.paper.specs.declared.Engine.{Engine}
use Rattle.paper.specs.declared.Duty.{Duty}

-- what holds a unit of a row, or an engine at a tick: nothing, or a duty by its number
abbrev pub Held : Type 0
Held = Option ℕ

-- the engine of a number
abbrev pub engine : ℕ → Engine
engine n = record { 0 = n }

-- "A duty has a service C and a period D, in ticks."
abbrev pub duty : ℕ → ℕ → Duty
duty c d = record { service = c; period = d }

-- duty i of a list of them
abbrev pub duty_at : List Duty → ℕ → Duty
duty_at ds i = get_or ds i (duty 0 0)

-- the services and the periods of all of them
abbrev pub services_of : List Duty → List ℕ
services_of ds = map (λ x. x.service) ds

abbrev pub periods_of : List Duty → List ℕ
periods_of ds = map (λ x. x.period) ds

-- "Its job q has the ticks from q·D up to, not including, (q+1)·D": the first of them; there are D
abbrev pub job_start : Duty → ℕ → ℕ
job_start x q = q * x.period

-- in which of its jobs each duty is at each tick
abbrev pub Jobs : Type 0
Jobs = ℕ → ℕ → ℕ

-- "the job at tick t being t/D rounded down", for duties whose start lies before tick 0, duty i's by `lead i` ticks
unfoldable pub jobs_led : (ℕ → ℕ) → List Duty → Jobs
jobs_led lead ds i k = (lead i + k) / (duty_at ds i).period

-- for duties that all start at tick 0
abbrev pub jobs_of : List Duty → Jobs
jobs_of ds = jobs_led (λ i. 0) ds

-- the ticks that a duty asks for in h ticks, where its period divides h: C in every D; and all of them
abbrev pub asks : ℕ → Duty → ℕ
asks h x = x.service * (h / x.period)

abbrev pub asked_in : ℕ → List Duty → ℕ
asked_in h ds = sum_to (length ds) (λ i. asks h (duty_at ds i))

-- one duty holds both
unfoldable pub same : Held → Held → Bool
same None h = false
same (Some i) None = false
same (Some i) (Some j) = eqb i j

-- some duty holds it
abbrev pub busy : Held → Bool
busy None = false
busy (Some i) = true

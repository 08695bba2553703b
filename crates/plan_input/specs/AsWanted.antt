-- What is read as what is wanted of a builder.
use Rattle.std.specs.Prelude.{ℕ, ◌≤◌, List, length, take}
use Rattle.paper.specs.declared.Duty.{Duty}
use Rattle.paper.specs.declared.Input.{Input}
use Rattle.paper.specs.Outcome.{Outcome, answer, and_then}
use Rattle.paper.specs.Wanted.{Wanted, wanted, wanted_of}

-- the duties of the lines after the first, for the engines of the first
abbrev pub with_engines : ℕ → Outcome (List Duty) → Outcome Wanted
with_engines e o = and_then o (λ ds. answer (wanted_of e ds))

-- an input's two lists up to its last duty
abbrev pub wanted_in : Input → Wanted
wanted_in i = wanted i.engines (take i.duties i.services) (take i.duties i.periods)

-- and they go so far
abbrev pub HasRoom : Input → Type 0
HasRoom i = (i.duties ≤ length i.services) × (i.duties ≤ length i.periods)

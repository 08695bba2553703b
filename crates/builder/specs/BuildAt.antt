-- The builder with the block length given.
use Rattle.std.specs.Prelude.{ℕ, List}
use Rattle.paper.specs.declared.Duty.{Duty}
use Rattle.paper.specs.Outcome.{Outcome, and_then}
use Rattle.paper.specs.Bytes.{bytes_of}
use Rattle.paper.specs.Builder.{plan_at, fitted}

-- refusals 6 and 7, else a plan; 8, else its bytes
abbrev pub build_at : ℕ → ℕ → List Duty → ℕ → Outcome (List ℕ)
build_at t m ds room = and_then (plan_at t m ds) (λ p. fitted room (bytes_of p))

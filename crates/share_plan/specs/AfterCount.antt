-- Plans of shares past 1 to 5, 22 and 7.
use Rattle.std.specs.Prelude.{ℕ}
use Rattle.paper.specs.declared.Engine.{Engine}
use Rattle.paper.specs.Duties.{Held}
use Rattle.paper.specs.Outcome.{Outcome, answer, and_then}
use Rattle.paper.specs.Answers.{of_engine}
use Rattle.paper.specs.Sa2.{Sharing}
use Rattle.paper.specs.Shares.{share_schedule, roomy, steady}

-- 8 and 23, else the plan
abbrev pub list_from : ℕ → Sharing → Outcome Sharing
list_from room s = and_then (roomy room s) steady

-- 23 and 18, else the duty or idle
abbrev pub held_from : Engine → ℕ → Sharing → Outcome Held
held_from e k s = and_then (steady s) (λ p. of_engine p.engines e (answer (share_schedule p e k)))

-- Refusals 7 and 8 by numbers: the units that the engines have and those that are laid, the bytes that the table needs and those that
-- there are.
use Rattle.std.specs.Prelude.{ℕ, ltb}
use Rattle.laws.specs.Choice.{pick}
use Rattle.paper.specs.Outcome.{Outcome, refused, answer}

-- 7, 8 with the bytes needed, else these
abbrev pub fitted_by : (have laid needed room : ℕ) → Outcome ℕ
fitted_by have laid needed room = pick (ltb have laid) (refused 7 0) (pick (ltb room needed) (refused 8 needed) (answer needed))

-- A number as a line has it: after a space, in decimal.
use Rattle.std.specs.Prelude.{ℕ, List, ◌∷◌}
use Rattle.paper.specs.Text.{space, decimal}

abbrev pub spaced : ℕ → List ℕ
spaced n = space ∷ decimal n

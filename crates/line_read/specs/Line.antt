-- The tests that document 01 has for a line at the front of a text whose first line feed is at k.
use Rattle.std.specs.Prelude.{ℕ, Bool, ◌&&◌, List, ltb, length, take}
use Rattle.paper.specs.Limits.{most_duties}
use Rattle.paper.specs.Text.{engine_line_good, duty_line_good}

-- "Every line ends in a line feed": the line of the engines
abbrev pub first_good : List ℕ → ℕ → Bool
first_good xs k = ltb k (length xs) && engine_line_good (take k xs)

-- "line 66, if present, is faulty": the line of duty i, which is line i + 2
abbrev pub line_good : ℕ → List ℕ → ℕ → Bool
line_good i xs k = ltb k (length xs) && ltb i most_duties && duty_line_good (take k xs)

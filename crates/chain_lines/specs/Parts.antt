-- The parts of a plan's text that follow from a table: a line for each chain, and one for the loads.
use Rattle.std.specs.Prelude.{ℕ, Bool, List, ◌++◌}
use Rattle.laws.specs.Lists.{flat}
use Rattle.paper.specs.Words.{Table}
use Rattle.paper.specs.Rotation.{chains_below, chains}
use Rattle.paper.specs.Text.{chain_line, loads_line}

-- of the chains that begin below row k, of m rows with links c
abbrev pub lines_below : (ℕ → Bool) → ℕ → ℕ → List ℕ
lines_below c m k = flat chain_line (chains_below c m k)

abbrev pub chain_lines : Table → List ℕ
chain_lines t = flat chain_line (chains t)

abbrev pub rotation_lines : Table → List ℕ
rotation_lines t = chain_lines t ++ loads_line t

-- The parts of a plan's text that stand in a table.
use Rattle.std.specs.Prelude.{ℕ, List, ◌++◌, length}
use Rattle.laws.specs.Lists.{tab, flat}
use Rattle.paper.specs.Words.{Table}
use Rattle.paper.specs.Text.{plan_line, duty_line, run_line}

-- a line for each duty or run
abbrev pub duty_lines : Table → List ℕ
duty_lines t = flat (duty_line t.duties) (tab (length t.duties) (λ i. i))

abbrev pub run_lines : Table → List ℕ
run_lines t = flat run_line t.runs

unfoldable pub table_lines : Table → List ℕ
table_lines t = plan_line t ++ duty_lines t ++ run_lines t

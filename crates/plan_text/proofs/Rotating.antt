-- The whole text is what stands in the table and what follows from it.
-- Assumes nothing.
use mathlib.Core.Path.{◌≡◌, sym}
use mathlib.Core.List.{◌++◌, append_assoc}
use Rattle.laws.specs.Lists.{flat}
use Rattle.paper.specs.Words.{Table}
use Rattle.paper.specs.Rotation.{chains}
use Rattle.paper.specs.Text.{plan_line, chain_line, loads_line, plan_text}
use Rattle.table_lines.specs.Parts.{duty_lines, run_lines, table_lines}
use Rattle.chain_lines.specs.Parts.{rotation_lines}

pub text_is : (t : Table) → table_lines t ++ rotation_lines t ≡ plan_text t
unfolding table_lines plan_text
text_is t = sym (append_assoc (plan_line t ++ duty_lines t ++ run_lines t) (flat chain_line (chains t)) (loads_line t))

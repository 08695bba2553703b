-- `print_chain`: its two numbers have at most 2 digits each.
use mathlib.Core.List.{[], ◌∷◌}
use Prim.Native.Nat.{◌≤◌}
use native.Mathlib.Omega.{arith}
use lib.ListN.{length}
use Rattle.paper.specs.Limits.{chain_line_room}
use Rattle.paper.specs.Text.{print_line, chain_word}
use Rattle.line_print.proofs.Line.{line_most}
use Rattle.table_lines.proofs.print_chain.Goals as goal
use Rattle.table_lines.proofs.print_chain.Goals.{After-from-2}

fits : (c : After-from-2) → length (print_line chain_word (c.from.result ∷ c.from-2.result ∷ [])) ≤ chain_line_room
fits c =
    let short = line_most 1 chain_word (c.from.result ∷ c.from-2.result ∷ []) in
    omega (arith, short (omega (arith, c.requires, c.from.ensures), (omega (arith, c.requires, c.from-2.ensures), tt)))

pub print_line-requires : goal.print_line-requires
print_line-requires c = omega (arith, fits (goal.at.print_line-requires c).After-from-2, c.requires)

pub returns-clause-upper_bound : goal.returns-clause-upper_bound
returns-clause-upper_bound c = omega (arith, fits (goal.at.returns-clause-upper_bound c).After-from-2, c.print_line.ensures.0)

-- The lines of the first i duties are written.
use mathlib.Core.List.{List}
use Prim.Native.Nat.{ℕ}
use lib.ListN.{length}
use Rattle.laws.specs.Lists.{tab}
use Rattle.paper.specs.Limits.{duty_lines_room}
use Rattle.paper.specs.Words.{Table}
use Rattle.paper.specs.Text.{duty_line}
use Rattle.table_lines.proofs.TableLines.{Lining}
use Rattle.table_lines.proofs.print_duties.Given as goal

-- the numbers of the duties
abbrev pub numbers_of : Table → List ℕ
numbers_of t = tab (length t.duties) (λ i. i)

abbrev pub invariant-loop-i : goal.invariant-loop-i
invariant-loop-i l = Lining (duty_line l.table.duties) (numbers_of l.table) l.count duty_lines_room l.initial.out l.out l.at l.i

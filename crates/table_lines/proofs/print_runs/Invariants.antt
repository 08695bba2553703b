-- The lines of the first k runs are written.
use Rattle.paper.specs.Limits.{run_lines_room}
use Rattle.paper.specs.Text.{run_line}
use Rattle.table_lines.proofs.TableLines.{Lining}
use Rattle.table_lines.proofs.print_runs.Given as goal

abbrev pub invariant-loop-k : goal.invariant-loop-k
invariant-loop-k l = Lining run_line l.table.runs l.count run_lines_room l.initial.out l.out l.at l.k

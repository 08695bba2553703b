-- `print_table`: each part is written behind those before it.
use mathlib.Core.Path.{◌≡◌, ◌∙◌}
use Prim.Native.Nat.{◌≤◌}
use mathlib.Core.List.{[], ◌∷◌}
use native.Mathlib.Omega.{arith}
use Rattle.laws.proofs.Writing.{length-lent, written, grown, renamed, all_written}
use Rattle.paper.specs.Limits.{plan_line_room}
use Rattle.paper.specs.Text.{print_line, plan_word, plan_line}
use Rattle.table_lines.proofs.TableLines.{head_is, head_room, plan_fits}
use Rattle.table_lines.specs.Parts.{table_lines}
use Rattle.table_lines.proofs.print_table.Goals as goal
use Rattle.table_lines.proofs.print_table.Goals.{After-print_line-duties, After-from-3}

-- the first line is the plan's, and has its room
head : (c : After-from-3) → print_line plan_word (c.from.result ∷ c.from-2.result ∷ c.from-3.result ∷ []) ≡ plan_line c.args.table.now
head c =
    let fields = c.reading-reading.ensures.fields in
    head_is c.args.table.now (c.from.ensures ∙ fields.0) (c.from-2.ensures ∙ fields.1) (c.from-3.ensures ∙ fields.2)

fits : (c : After-print_line-duties) → c.print_line-duties.result ≤ plan_line_room
fits c =
    let fields = c.reading-reading.ensures.fields in
    head_room c.reading-reading.ensures.ranged c.print_line-duties.ensures.0
    (head_is c.args.table.now (c.from.ensures ∙ fields.0) (c.from-2.ensures ∙ fields.1) (c.from-3.ensures ∙ fields.2))

pub print_line-duties-requires : goal.print_line-duties-requires
print_line-duties-requires c =
    rw (head (goal.at.print_line-duties-requires c).After-from-3) (omega (arith, plan_fits c.reading-reading.ensures.ranged))

pub slice_bounds-print_duties-count : goal.slice_bounds-print_duties-count
slice_bounds-print_duties-count c = omega (arith, fits (goal.at.slice_bounds-print_duties-count c).After-print_line-duties)

pub slice_bounds-print_duties-start : goal.slice_bounds-print_duties-start
slice_bounds-print_duties-start c = omega (arith, fits (goal.at.slice_bounds-print_duties-start c).After-print_line-duties)

pub print_duties-requires : goal.print_duties-requires
print_duties-requires c = rw length-lent (omega (arith, fits (goal.at.print_duties-requires c).After-print_line-duties))

pub overflow_add-runs : goal.overflow_add-runs
overflow_add-runs c = omega (arith, fits (goal.at.overflow_add-runs c).After-print_line-duties)

pub slice_bounds-print_runs-count : goal.slice_bounds-print_runs-count
slice_bounds-print_runs-count c = omega (arith, fits (goal.at.slice_bounds-print_runs-count c).After-print_line-duties)

pub slice_bounds-print_runs-start : goal.slice_bounds-print_runs-start
slice_bounds-print_runs-start c = omega (arith, fits (goal.at.slice_bounds-print_runs-start c).After-print_line-duties)

pub print_runs-requires : goal.print_runs-requires
print_runs-requires c = rw length-lent (omega (arith, fits (goal.at.print_runs-requires c).After-print_line-duties))

pub overflow_add-result : goal.overflow_add-result
overflow_add-result c = omega (arith, fits (goal.at.overflow_add-result c).After-print_line-duties)

pub returns : goal.returns
unfolding table_lines
returns c =
    let at = goal.at.returns c in
    let plan = c.print_line-duties.ensures in
    let duties = c.print_duties.ensures in
    let runs = c.print_runs.ensures in
    let line = renamed (head at.After-from-3) (written _ _ _ _ plan.1 plan.0) in
    let both = grown _ _ _ line duties.puts.0 duties.puts.1 in
    record { puts = all_written (grown _ _ _ both runs.puts.0 runs.puts.1); upper_bound = omega (arith, fits at.After-print_line-duties) }

-- `print_planned`: what was built is judged and printed, or the refusal is.
use mathlib.Core.Path.{sym, ap}
use lib.Seq.{length-take-le}
use Rattle.paper.specs.Text.{printed}
use Rattle.plan_input.specs.AsWanted.{wanted_in}
use Rattle.plan.proofs.Building.{built_bytes, built_refused}
use Rattle.plan.proofs.Printed.{puts_as}
use Rattle.plan.proofs.print_planned.Goals as goal
use Rattle.plan.proofs.print_planned.Goals.{After-print_plan-arg-1}

pub slice_bounds-build-end : goal.slice_bounds-build-end
slice_bounds-build-end c =
    sym (length-take-le c.args.given.duties c.args.given.services c.requires.has_room.0)

pub slice_bounds-build-end-2 : goal.slice_bounds-build-end-2
slice_bounds-build-end-2 c =
    sym (length-take-le c.args.given.duties c.args.given.periods c.requires.has_room.1)

pub slice_bounds-table-end : goal.slice_bounds-table-end
slice_bounds-table-end c =
    let build = c.build in
    let given = c.args.given in
    (built_bytes (wanted_in given) build.ensures c.in-Ok.is).0

pub slice_bounds-print_plan-end : goal.slice_bounds-print_plan-end
slice_bounds-print_plan-end c =
    sym (length-take-le _ _ (slice_bounds-table-end (goal.at.slice_bounds-print_plan-end c).After-print_plan-arg-1))

pub returns-in-Ok : goal.returns-in-Ok
returns-in-Ok c =
    let build = c.build in
    let args = c.args in
    let same = (built_bytes (wanted_in args.given)
    build.ensures
    c.in-Ok.is).1 in
    puts_as args.out.now (ap printed same) c.print_plan.ensures

pub returns-in-Err : goal.returns-in-Err
returns-in-Err c =
    let build = c.build in
    let args = c.args in
    let same = built_refused (wanted_in args.given) build.ensures
    c.in-Err.is in
    puts_as args.out.now (ap printed (sym same)) c.print_refused.ensures

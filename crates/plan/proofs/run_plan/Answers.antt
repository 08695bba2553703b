-- `run_plan`: what was read decides what is printed.
use mathlib.Core.Path.{sym, ap, ◌∙◌}
use borrow.Author.Rules.{rules}
use Rattle.paper.specs.Outcome.{outcome_of}
use Rattle.plan.proofs.Printed.{puts_as, program_is}
use Rattle.plan_input.proofs.NothingLost.{read-room}
use Rattle.plan.proofs.run_plan.Goals as goal

pub print_planned-requires : goal.print_planned-requires
print_planned-requires c =
    let same = ap outcome_of (sym c.in-Ok.is) ∙ c.read_input.ensures in
    record { text_room_in_bounds = search rules; has_room = read-room _ same }

pub returns-in-Ok : goal.returns-in-Ok
returns-in-Ok c =
    let same = program_is _ (ap outcome_of (sym c.in-Ok.is) ∙ c.read_input.ensures) in
    puts_as c.args.out.now same c.print_planned.ensures

pub returns-in-Err : goal.returns-in-Err
returns-in-Err c =
    let same = program_is _ (ap outcome_of (sym c.in-Err.is) ∙ c.read_input.ensures) in
    puts_as c.args.out.now same c.print_refused.ensures

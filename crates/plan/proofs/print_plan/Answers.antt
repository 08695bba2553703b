-- `print_plan`: the judge decides what is printed.
use mathlib.Core.Path.{sym, ap, ◌∙◌}
use Rattle.paper.specs.Text.{printed}
use Rattle.table_form.specs.FormAs.{form_as}
use Rattle.plan.proofs.Printed.{puts_as}
use Rattle.plan.proofs.print_plan.Goals as goal

pub returns-in-Ok : goal.returns-in-Ok
returns-in-Ok c =
    let same = ap form_as (sym c.in-Ok.is) ∙ c.rule_on.ensures in
    puts_as c.args.out.now (ap printed same) c.print_text.ensures.puts

pub returns-in-Err : goal.returns-in-Err
returns-in-Err c =
    let same = ap form_as (sym c.in-Err.is) ∙ c.rule_on.ensures in
    puts_as c.args.out.now (ap printed same) c.print_refused.ensures

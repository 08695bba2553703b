-- `print_number`: each turn stores the last digit of what is left, in front of those that stand.
use mathlib.Core.Path.{refl}
use borrow.Author.Rules.{rules}
use lib.ListN.{length-set}
use Rattle.number_print.proofs.Decimal.{storing_start, storing_more, storing_end}
use Rattle.number_print.proofs.print_number.Goals as goal

pub loop-k-init : goal.loop-k-init
loop-k-init c = (search rules, refl, storing_start _ _ _ (search rules) c.digit_count-count.ensures.0)

pub loop-k-preserved : goal.loop-k-preserved
loop-k-preserved c =
    let storing = c.loop-k.invariant.2 in
    (search rules, simp length-set (search rules), storing_more _ _ _ _ _ storing (search rules) (search rules))

pub returns : goal.returns
returns c = (search rules, storing_end _ _ _ _ _ c.loop-k.invariant.2 (search rules) (search rules))

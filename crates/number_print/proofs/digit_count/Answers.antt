-- `digit_count`: each division by 10 takes one digit away.
use borrow.Author.Rules.{rules}
use Rattle.number_print.proofs.Decimal.{counting_start, counting_more, counting_end}
use Rattle.number_print.proofs.digit_count.Goals as goal

pub loop-left-init : goal.loop-left-init
loop-left-init c = counting_start _ (search rules)

pub loop-left-preserved : goal.loop-left-preserved
loop-left-preserved c = counting_more c.loop-left.invariant (search rules)

pub returns : goal.returns
returns c = counting_end c.loop-left.invariant (search rules)

-- `is_number`: some bytes, at most nine, all digits, and no zero before others.
use mathlib.Core.Path.{sym}
use borrow.Author.Rules.{rules}
use Rattle.number_read.proofs.Numbers.{all_are_digits, number_some}
use Rattle.number_read.proofs.is_number.Goals as goal

pub returns : goal.returns
returns c =
    rw (c.all_digits.ensures, all_are_digits) (sym (number_some c.args.c.now (search rules)))

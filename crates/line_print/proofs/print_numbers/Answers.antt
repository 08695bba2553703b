-- `print_numbers`: after so many turns so many numbers are written.
use mathlib.Core.Path.{refl}
use borrow.Author.Rules.{rules}
use native.Mathlib.Omega.{arith}
use Rattle.laws.proofs.Writing.{length-lent}
use Rattle.laws.proofs.Listing.{listing_start, listing_room, listing_more, listing_end}
use Rattle.number_print.specs.Spaced.{spaced}
use Rattle.line_print.proofs.print_numbers.Goals as goal
use Rattle.line_print.proofs.print_numbers.Goals.{In-loop-n}

pub loop-n-init : goal.loop-n-init
loop-n-init c = listing_start spaced _ _

pub print_number-at-requires : goal.print_number-at-requires
print_number-at-requires c = rw length-lent (omega (arith, listing_room 0 _ refl c.loop-n.invariant (search rules)))

pub overflow_add-at : goal.overflow_add-at
overflow_add-at c =
    let loop = c.loop-n in
    omega (arith, listing_room 0 _ refl loop.invariant (search rules))

pub loop-n-preserved : goal.loop-n-preserved
loop-n-preserved c =
    let put = c.print_number-at in
    let loop = c.loop-n in
    listing_more 0 _ _ _ refl loop.invariant (search rules) put.ensures.0 put.ensures.1 (search rules)

pub returns : goal.returns
returns c = listing_end c.loop-n.invariant (search rules)

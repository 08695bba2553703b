use Rattle.laws.proofs.Listing.{Listing}
use Rattle.number_print.specs.Spaced.{spaced}
use Rattle.line_print.proofs.print_numbers.Given as goal

abbrev pub invariant-loop-n : goal.invariant-loop-n
invariant-loop-n l = Listing spaced l.numbers l.initial.out l.out l.at l.n-index

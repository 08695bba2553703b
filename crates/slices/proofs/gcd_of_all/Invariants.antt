use mathlib.Core.Path.{◌≡◌}
use lib.ListN.{drop}
use Rattle.laws.specs.Divisor.{gcd, gcd_of}
use Rattle.slices.proofs.gcd_of_all.Given as goal

abbrev pub invariant-loop-period : goal.invariant-loop-period
invariant-loop-period l = gcd l.g (gcd_of (drop l.period-index l.periods)) ≡ gcd_of l.periods

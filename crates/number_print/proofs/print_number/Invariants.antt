use mathlib.Core.Path.{◌≡◌}
use Prim.Native.Nat.{◌≤◌}
use lib.ListN.{length}
use Rattle.number_print.proofs.Decimal.{Storing}
use Rattle.number_print.proofs.print_number.Given as goal

abbrev pub invariant-loop-k : goal.invariant-loop-k
invariant-loop-k l = (l.k ≤ l.count) × (length l.out ≡ length l.initial.out) × Storing l.n l.initial.out l.out l.k l.left

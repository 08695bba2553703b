use mathlib.Core.Path.{◌≡◌}
use lib.ListN.{drop}
use Rattle.paper.specs.Text.{value_from, value}
use Rattle.number_read.proofs.value_of.Given as goal

-- the value so far with the digits that are left is that of all
abbrev pub invariant-loop-x : goal.invariant-loop-x
invariant-loop-x l = value_from l.v (drop l.x-index l.c) ≡ value l.c

use mathlib.Core.Path.{◌≡◌}
use Rattle.table_tally.proofs.Edged.{edges_from}
use Rattle.table_tally.proofs.Tallied.{units_from}
use Rattle.table_tally.proofs.tally.Given as goal

abbrev pub invariant-loop-k : goal.invariant-loop-k
invariant-loop-k l = record {
  units : l.units ≡ units_from l.table.runs l.k;
  edges : l.edges.rows ≡ edges_from l.table.runs l.table.ticks l.k;
}

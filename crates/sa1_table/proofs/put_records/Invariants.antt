use Rattle.sa1_table.proofs.Recording.{Recording}
use Rattle.sa1_table.proofs.put_records.Given as goal

abbrev pub invariant-loop-i : goal.invariant-loop-i
invariant-loop-i l = Recording l.laying.ticks l.laying.duties l.initial.out l.out l.at l.i l.place

use Rattle.share_pass.proofs.Putting.{Putting}
use Rattle.share_pass.proofs.put_blocks.Given as goal

abbrev pub invariant-loop-cut : goal.invariant-loop-cut
invariant-loop-cut l = Putting l.initial.paces.sharing l.blocks l.initial.list l.cut-index l.at l.paces l.list

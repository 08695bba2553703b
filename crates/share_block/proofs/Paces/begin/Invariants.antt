use Rattle.share_block.proofs.Beginning.{Begun}
use Rattle.share_block.proofs.Paces.begin.Given as goal

abbrev pub invariant-loop-i : goal.invariant-loop-i
invariant-loop-i l = Begun l.sharing l.i l.total l.lists

use Rattle.share_block.proofs.Cutting.{Cutting}
use Rattle.share_block.proofs.Paces.find_cut.Given as goal

abbrev pub invariant-loop-i : goal.invariant-loop-i
invariant-loop-i l = Cutting l.self.sharing l.self.block l.i l.wanting

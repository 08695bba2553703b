use Rattle.share_common.proofs.Counting.{Gone}
use Rattle.share_common.proofs.common_of.Given as goal

abbrev pub invariant-loop-i : goal.invariant-loop-i
invariant-loop-i l = Gone l.ticks l.duties l.i l.common

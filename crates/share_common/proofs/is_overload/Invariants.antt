use Rattle.share_common.proofs.Counting.{Asking}
use Rattle.share_common.proofs.is_overload.Given as goal

abbrev pub invariant-loop-i : goal.invariant-loop-i
invariant-loop-i l = Asking l.duties l.ticks l.i l.asked

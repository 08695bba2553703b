-- `is_overload`: what the duties ask for is added up; none asks for more than the ticks, so the sum of few of them fits 64 bits.
use Prim.Native.Nat.{◌*◌}
use mathlib.Core.Path.{ap}
use native.Mathlib.Omega.{arith}
use lib.Dec.{ltb}
use Rattle.share_common.proofs.Counting.{asking_none, asking_more, asking_end}
use Rattle.share_common.proofs.is_overload.Goals as goal

pub loop-i-init : goal.loop-i-init
loop-i-init c = asking_none _ _

pub loop-i-preserved : goal.loop-i-preserved
loop-i-preserved c =
    let n = c.asked_of-asked.ensures in
    asking_more _ _ c.loop-i.invariant c.duty.ensures.value n.0 (omega arith)

pub returns : goal.returns
returns c =
    let sum = asking_end c.loop-i.invariant (omega arith) in
    rw (c.from.ensures, c.from-2.ensures) (ap (ltb (c.args.engines * c.args.ticks)) sum)

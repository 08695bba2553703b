-- `common_of`: a multiple on the way divides the common one, so where it is too much that one is.
use native.Mathlib.Omega.{arith}
use borrow.Author.Rules.{rules}
use Rattle.share_common.proofs.Counting.{gone_none, gone_within, gone_more, gone_end}
use Rattle.share_common.proofs.common_of.Goals as goal

pub loop-i-init : goal.loop-i-init
loop-i-init c = gone_none _ c.requires.0

pub returns-in_err-common : goal.returns-in_err-common
returns-in_err-common c =
    let within = gone_within c.len-i-end.ensures.listed.ranged c.loop-i.invariant (search rules) in
    rw c.from_residual.ensures (λ l. c.in_err-common.ensures (rw c.duty.ensures.value (omega (arith, within, l, c.requires.1))))

pub returns-then-most-common : goal.returns-then-most-common
returns-then-most-common c =
    let within = gone_within c.len-i-end.ensures.listed.ranged c.loop-i.invariant (search rules) in
    λ l. omega (arith, rw c.duty.ensures.value at c.in_ok-common.ensures.1, within, l)

pub loop-i-preserved : goal.loop-i-preserved
loop-i-preserved c =
    let next = rw c.duty.ensures.value at c.in_ok-common.ensures.1 in
    gone_more c.len-i-end.ensures.listed.ranged c.loop-i.invariant (search rules) _ next (omega arith)

pub returns : goal.returns
returns c =
    let end = gone_end c.len-i-end.ensures.listed.ranged c.loop-i.invariant (search rules) in
    (omega (arith, end, c.loop-i.invariant.few), end)

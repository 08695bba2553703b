-- `Paces::begin`: each duty's share is divided once; the lists are filled duty after duty, and the sum is at most a million and one for
-- each.
use Prim.Native.Nat.{◌<◌}
use mathlib.Core.Path.{◌≡◌, ap, ◌∙◌}
use native.Mathlib.Omega.{arith}
use Rattle.paper.specs.declared.Duty.{Duty}
use Rattle.paper.specs.Sa2.{duty_count}
use Rattle.slices.proofs.Shares.{slice_is}
use Rattle.share_block.proofs.Beginning.{begun_none, begun_more, begun_paced}
use Rattle.share_block.proofs.Paces.begin.Goals as goal

pub loop-i-init : goal.loop-i-init
loop-i-init c =
    let l = c.new.ensures in
    begun_none _ _ l.periods l.rate l.rest l.whole l.part

pub loop-i-preserved : goal.loop-i-preserved
loop-i-preserved c =
    let k = c.ticks-ticks.ensures.shareable in
    let ticks = c.ticks-ticks.ensures.value in
    let duty = c.duty-duty.ensures.value in
    let share = c.share_of-share.ensures in
    let l : c.loop-i.i < duty_count c.args.sharing.now = omega (arith, c.duty_count-i-end.ensures.value, c.loop-i-test.true) in
    begun_more k _ _ _ c.loop-i.invariant l (ap (λ (x : Duty). x.period) duty) (share.0 ∙ slice_is _ _ ∙ rw (ticks, duty))
    (share.1 ∙ rw (ticks, duty)) (omega (arith, share.2, ticks, k.ticks_most))

pub invariant_of-result : goal.invariant_of-result
invariant_of-result c =
    let end : c.loop-i.i ≡ duty_count c.args.sharing.now = omega (arith, c.duty_count-i-end.ensures.value, c.loop-i-test.false) in
    begun_paced c.ticks-ticks.ensures.shareable c.loop-i.invariant end

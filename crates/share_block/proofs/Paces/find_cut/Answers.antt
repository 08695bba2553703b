-- `Paces::find_cut`: the count is that of the duties before i that want a unit. The loop goes on while fewer than F do, so it stops at the
-- cut.
use mathlib.Core.Path.{◌≡◌, sym, ap, ◌∙◌}
use native.Mathlib.Omega.{arith}
use Rattle.laws.specs.Choice.{one_if}
use Rattle.share_turn.proofs.Carry.{counted}
use Rattle.share_block.specs.Paced.{Pace}
use Rattle.share_block.proofs.Going.{opened, count}
use Rattle.share_block.proofs.Cutting.{cutting_none, cutting_more, cutting_hit, cutting_miss}
use Rattle.share_block.proofs.Paces.find_cut.Goals as goal

pub loop-i-init : goal.loop-i-init
loop-i-init c = cutting_none _ _

pub returns-then-free-wanting : goal.returns-then-free-wanting
returns-then-free-wanting c =
    let n = c.duty_count-duties.ensures.value ∙ count c.self.view_is in
    (cutting_hit _ c.loop-i.invariant (omega arith) c.requires c.if-free-wanting.true, omega (arith, c.self.invariant.shareable.few))

pub loop-i-preserved : goal.loop-i-preserved
loop-i-preserved c =
    let n = c.duty_count-duties.ensures.value ∙ count c.self.view_is in
    let ticks = c.ticks-ticks.ensures.value ∙ ap (λ (p : Pace). p.sharing.ticks) c.self.view_is in
    let wants = c.from-wanting.ensures ∙ counted _ ∙ ap one_if (rw ticks at c.wants_more.ensures) in
    let needed = (opened c.self.view_is c.self.invariant).needed in
    cutting_more _ _ c.loop-i.invariant needed c.requires (omega arith) c.if-free-wanting.false wants

pub returns : goal.returns
returns c =
    let n = c.duty_count-duties.ensures.value ∙ count c.self.view_is in
    let end : c.loop-i.i ≡ c.duty_count-duties.result = omega (arith, c.loop-i-test.false) in
    (sym end ∙ cutting_miss c.loop-i.invariant (end ∙ n), omega (arith, c.duty_count-duties.ensures.value, c.self.invariant.shareable.few))

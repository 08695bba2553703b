-- `held_from`: every block is looked at, and the tick's kept; the engine's row and the tick's unit are a place on its line.
use native.Mathlib.Omega.{arith}
use Rattle.share_plan.proofs.FromBlocks.{held_on_line}
use Rattle.share_plan.proofs.held_from.Goals as goal

pub returns : goal.returns
returns c =
    let ticks = c.ticks-ticks.ensures.value in
    let looked = c.in_ok-survey.ensures in
    held_on_line c.args.engine c.args.tick _ _ _ _ _ _ c.ticks-ticks.ensures.shareable looked.good
    (omega (arith, c.engines.ensures.value, c.if-engines-engine.false))
    (rw (c.from.ensures, c.from-2.ensures, ticks, c.blocks-2.ensures.value)) looked.kept
    c.duty_count.ensures.value (rw (c.from-3.ensures, ticks)) c.held_at.ensures

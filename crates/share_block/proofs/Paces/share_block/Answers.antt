-- `Paces::share_block`: the free units of step 1 give the cut of step 2, the cut the turns; and it comes short where some duty lacks or the
-- needs are too many.
use mathlib.Core.Path.{sym, ap, ◌∙◌}
use Rattle.share_block.specs.Paced.{Pace, lack_at}
use Rattle.share_block.proofs.Going.{free_or, short_or}
use Rattle.share_block.proofs.Paces.share_block.Goals as goal

pub find_cut-cut-requires : goal.find_cut-cut-requires
find_cut-cut-requires c =
    let room = rw (c.engines.ensures.value, c.ticks.ensures.value) at c.room_in_block-room.ensures in
    rw (c.unwrap_or.ensures, ← c.self.view_is) (free_or c.self.invariant _ c.duty_count-duties.ensures.value _ room)

pub returns-clause-short_value : goal.returns-clause-short_value
returns-clause-short_value c =
    let room = rw (c.engines.ensures.value, c.ticks.ensures.value) at c.room_in_block-room.ensures in
    let lacking = c.share_by_cut-lacking.ensures.lacking ∙ ap (λ (p : Pace). lack_at p.sharing p.block) (sym c.self.view_is) in
    rw (← c.self.view_is) (short_or c.self.invariant _ c.duty_count-duties.ensures.value _ _ _ room lacking c.is_none.ensures)

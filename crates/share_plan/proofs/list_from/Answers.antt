-- `list_from`: the room is tested, then every block looked at, and only then the list written, by the cuts that were found.
use Rattle.share_plan.proofs.FromBlocks.{listed}
use Rattle.share_plan.proofs.list_from.Goals as goal

pub returns : goal.returns
returns c =
    let n = c.blocks-blocks.ensures.value in
    listed _ _ _ _ _ (rw (n, c.duty_count.ensures.value)) c.if-list-entries.false c.in_ok-survey.ensures.good c.ticks.ensures.value n
    c.write_list.ensures

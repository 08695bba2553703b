-- `tickplume_next`: the dispatcher's verdict as a word, or the next state in its entries.
use Rattle.paper.specs.Limits.{state_room}
use Rattle.paper.specs.Answers.{Hands, advanced}
use Rattle.paper.specs.Face.{state_in}
use Rattle.plan_laws.proofs.Listed.{next_listed}
use Rattle.tickplume.proofs.Cut.{next_asked}
use Rattle.tickplume.proofs.Handing.{hands_fits, hands_told}
use Rattle.tickplume.proofs.tickplume_next.Goals as goal
use Rattle.tickplume.proofs.tickplume_next.Goals.{After-next}

-- what it hands back is by the state that was taken, and so by the one that was lent
asked : (c : After-next) → Hands (advanced c.args.table.now (state_in c.args.state.now)) c.next.result
asked c = next_asked _ c.args.state.now c.state_in.ensures c.next.ensures

pub hand_over-requires : goal.hand_over-requires
hand_over-requires c =
    (hands_fits (asked (goal.at.hand_over-requires c).After-next) (next_listed _ _), c.if-state-lt-STATE_ROOM.false)

pub returns : goal.returns
returns c =
    hands_told (asked (goal.at.returns c).After-next) state_room c.args.state.now c.if-state-lt-STATE_ROOM.false c.hand_over.ensures

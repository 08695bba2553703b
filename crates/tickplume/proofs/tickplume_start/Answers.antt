-- `tickplume_start`: the dispatcher's verdict as a word, or its state in its entries.
use Rattle.plan_laws.proofs.Listed.{start_listed}
use Rattle.tickplume.proofs.Handing.{hands_fits}
use Rattle.tickplume.proofs.tickplume_start.Goals as goal

pub hand_over-requires : goal.hand_over-requires
hand_over-requires c = (hands_fits c.start.ensures (start_listed _ _), c.if-state-lt-STATE_ROOM.false)

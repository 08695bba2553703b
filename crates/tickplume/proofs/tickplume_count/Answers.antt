-- `tickplume_count`: the count as a word, or as one entry.
use Rattle.plan_laws.proofs.Listed.{counted_listed}
use Rattle.tickplume.proofs.Telling.{in_word}
use Rattle.tickplume.proofs.tickplume_count.Goals as goal

pub tell-requires : goal.tell-requires
tell-requires c = record { fits = in_word (counted_listed _ c.args.blocks) c.count.ensures; room = c.if-answer-lt-WORD_ROOM.false }

-- `tickplume_judge`: the judge's answer as a word, or as four entries.
use Rattle.plan_laws.proofs.Listed.{judged_listed}
use Rattle.tickplume.proofs.Telling.{in_word}
use Rattle.tickplume.proofs.tickplume_judge.Goals as goal

pub tell-requires : goal.tell-requires
tell-requires c =
    record { fits = in_word (judged_listed _) c.judged.ensures; room = c.if-answer-lt-READING_ROOM.false }

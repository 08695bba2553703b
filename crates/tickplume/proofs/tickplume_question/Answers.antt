-- `tickplume_question`: the answer to the question as a word, or as a row with a duty or the mark for idle.
use Rattle.plan_laws.proofs.Listed.{question_listed}
use Rattle.tickplume.proofs.Telling.{in_word}
use Rattle.tickplume.proofs.tickplume_question.Goals as goal

pub tell-requires : goal.tell-requires
tell-requires c = record { fits = in_word (question_listed _ _ _) c.question.ensures; room = c.if-answer-lt-REPLY_ROOM.false }

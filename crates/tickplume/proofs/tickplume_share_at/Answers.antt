-- `tickplume_share_at`: the answer to the question as a word, or as a duty or the mark for idle.
use Rattle.share_laws.proofs.SharesListed.{share_question_listed}
use Rattle.tickplume.proofs.Telling.{in_word}
use Rattle.tickplume.proofs.tickplume_share_at.Goals as goal

pub tell-requires : goal.tell-requires
tell-requires c = record { fits = in_word (share_question_listed _ _ _) c.share_question.ensures; room = c.if-answer-lt-WORD_ROOM.false }

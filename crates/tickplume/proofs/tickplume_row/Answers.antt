-- `tickplume_row`: the row by the state as a word, or as one entry.
use mathlib.Core.Path.{◌≡◌, ap}
use borrow.Author.Tests.{le-ltb}
use Rattle.paper.specs.Duties.{engine}
use Rattle.paper.specs.Limits.{word_room, state_room}
use Rattle.paper.specs.Outcome.{outcome_of}
use Rattle.paper.specs.Answers.{row_told}
use Rattle.paper.specs.Face.{state_in, entries}
use Rattle.plan_laws.proofs.Listed.{row_listed}
use Rattle.tickplume.proofs.Telling.{in_word, told}
use Rattle.tickplume.proofs.Cut.{row_asked}
use Rattle.tickplume.proofs.tickplume_row.Goals as goal
use Rattle.tickplume.proofs.tickplume_row.Goals.{After-row}

-- it is told by the state that was taken, and so by the one that was lent
asked : (c : After-row) → outcome_of c.row.result ≡ row_told c.args.table.now (state_in c.args.state.now) (engine c.args.engine)
asked c = row_asked _ c.args.state.now _ c.state_in.ensures c.row.ensures

pub tell-requires : goal.tell-requires
tell-requires c =
    record { fits = in_word (row_listed _ _ _) (asked (goal.at.tell-requires c).After-row); room = c.if-answer-lt-WORD_ROOM.false }

pub returns : goal.returns
returns c =
    rw (le-ltb _ state_room c.if-state-lt-STATE_ROOM.false)
    (told word_room c.args.answer.now c.if-answer-lt-WORD_ROOM.false (ap (entries _) (asked (goal.at.returns c).After-row)) c.tell.ensures)

-- `tickplume_build`: the builder's answer as a word, or the table's length as one entry; the builder has written the table.
use lib.ListN.{length}
use Rattle.paper.specs.Wanted.{wanted}
use Rattle.paper.specs.Builder.{build}
use Rattle.plan_laws.proofs.Listed.{build_listed}
use Rattle.tickplume.proofs.Telling.{in_word, listed_of}
use Rattle.tickplume.proofs.tickplume_build.Goals as goal

pub tell-requires : goal.tell-requires
tell-requires c =
    let o = build c.args.block_length (wanted c.args.engines c.args.services.now c.args.periods.now) (length c.args.table.now) in
    record { fits = in_word (listed_of length o (build_listed _ _ _)) c.build.ensures.said; room = c.if-answer-lt-WORD_ROOM.false }

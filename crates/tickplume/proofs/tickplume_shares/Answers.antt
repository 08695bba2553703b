-- `tickplume_shares`: the answer of the builder of shares as a word, or its reading as three entries; the builder of shares has written the
-- list.
use lib.ListN.{length}
use Rattle.paper.specs.Wanted.{wanted}
use Rattle.paper.specs.Shares.{share_plan, reading_of_shares}
use Rattle.share_laws.proofs.SharesListed.{shares_listed}
use Rattle.tickplume.proofs.Telling.{in_word, listed_of}
use Rattle.tickplume.proofs.tickplume_shares.Goals as goal

pub tell-requires : goal.tell-requires
tell-requires c =
    let o = share_plan (wanted c.args.engines c.args.services.now c.args.periods.now) (length c.args.allotments.now) in
    record {
      fits = in_word (listed_of reading_of_shares o (shares_listed _ _)) c.build_shares.ensures.said;
      room = c.if-answer-lt-SHARE_READING_ROOM.false;
    }

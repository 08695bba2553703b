-- `reply_at`: the row of the tick's block, and what holds the tick's unit on it.
use Prim.Native.Nat.{◌<◌}
use mathlib.Core.Path.{◌≡◌, refl, ap, ◌∙◌}
use native.Mathlib.Omega.{arith}
use Rattle.paper.specs.Words.{Table}
use Rattle.reply.proofs.Replying.{reply_is}
use Rattle.reply.proofs.reply_at.Goals as goal
use Rattle.reply.proofs.reply_at.Goals.{After-from-t}

-- the reading's block length is the table's
ticks-are : (c : After-from-t) → c.from-t.result ≡ c.args.accepted.now.ticks
ticks-are c =
    c.from-t.ensures ∙ ap (λ r. r.block_length) c.reading-reading.ensures.told ∙ ap (λ (t : Table). t.ticks) c.table-table.ensures.same

pub returns : goal.returns
returns c =
    let t = c.args.accepted.now in
    let ticks = ticks-are (goal.at.returns c).After-from-t in
    let engines : c.reading-reading.result.engines ≡ t.engines =
    ap (λ r. r.engines) c.reading-reading.ensures.told ∙ ap (λ (x : Table). x.engines) c.table-table.ensures.same in
    let below : c.args.engine.0 < t.engines = omega arith in
    reply_is t c.args.engine c.args.tick below (c.row_in-row.ensures ∙ rw (c.edges.ensures.links, ticks) refl)
    (c.held-held.ensures ∙ rw (ticks, c.table-table.ensures.same) refl)

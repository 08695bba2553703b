-- `tell`: where neither 18 nor 20 is told, the row.
use mathlib.Core.Path.{◌≡◌, sym, ap, ◌∙◌}
use Prim.Native.Nat.{◌<◌}
use native.Mathlib.Omega.{arith}
use borrow.Author.Rules.{rules}
use Rattle.paper.specs.Words.{Table}
use Rattle.dispatch_state.proofs.Deciding.{row_told_lem}
use Rattle.dispatch_state.proofs.tell.Goals as goal

pub returns : goal.returns
returns c =
    let t = c.args.accepted.now in
    let engines : c.reading-engines.result.engines ≡ t.engines =
    ap (λ r. r.engines) c.reading-engines.ensures.told ∙ ap (λ (t : Table). t.engines) c.table.ensures.same in
    let there : c.args.engine.0 < t.engines = omega arith in
    rw (c.row_in.ensures, c.edges.ensures.links)
    (sym (row_told_lem _ t.engines c.args.s c.is_own.ensures c.args.engine there (search rules)))

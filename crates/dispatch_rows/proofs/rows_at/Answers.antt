-- `rows_at`: what stands so far is the block's rows of the engines passed, and past them there stands 0; the last one's chain is at hand.
use Prim.Native.Nat.{◌<◌}
use mathlib.Core.Path.{◌≡◌, refl, ap, ◌∙◌}
use Rattle.paper.specs.Words.{Table}
use native.Mathlib.Omega.{arith}
use Rattle.paper.specs.Limits.{most_engines}
use Rattle.row_edges.specs.Links.{link_of}
use Rattle.rotation.proofs.Turns.{row_turned}
use Rattle.dispatch_rows.proofs.AtHand.{own_at_hand, next_at_hand}
use Rattle.dispatch_rows.proofs.Filling.{rows_none, rows_more}
use Rattle.dispatch_rows.proofs.rows_at.Goals as goal
use Rattle.dispatch_rows.proofs.rows_at.Goals.{After-reading-engines}

-- the reading's engines are the table's
engines-are : (c : After-reading-engines) → c.reading-engines.result.engines ≡ c.args.accepted.now.engines
engines-are c = ap (λ r. r.engines) c.reading-engines.ensures.told ∙ ap (λ (t : Table). t.engines) c.table.ensures.same

pub loop-i-init : goal.loop-i-init
loop-i-init c = (own_at_hand c.turned_at-turned.ensures, rows_none _ _)

pub loop-i-preserved : goal.loop-i-preserved
loop-i-preserved c =
    let loop = c.loop-i in
    let t = c.onward-turned.ensures in
    let engines = engines-are (goal.at.loop-i-preserved c).After-reading-engines in
    let few : loop.i < most_engines = omega (arith, c.table.ensures.ranged.engines_most, engines) in
    let filled = rows_more (link_of c.edges-edges.result.now.rows) c.args.block loop.i few (c.row_of.ensures ∙ row_turned t) in
    (next_at_hand t, rw loop.invariant.1 filled)

pub returns : goal.returns
returns c =
    let loop = c.loop-i in
    let all : loop.i ≡ c.reading-engines.result.engines = omega arith in
    loop.invariant.1 ∙ rw (all, engines-are (goal.at.returns c).After-reading-engines, c.edges-edges.ensures.links) refl

-- `chain_first`: the first row is the same all along the links, and a row that is not linked to the one before is its own.
use Prim.Native.Nat.{◌+◌, ◌-◌}
use mathlib.Core.Path.{◌≡◌, sym, ap, ◌∙◌}
use mathlib.Core.Bool.{true, false}
use native.Mathlib.Omega.{arith}
use borrow.Author.Rules.{rules}
use Rattle.paper.specs.Rotation.{first_of}
use Rattle.walk_laws.proofs.Page.{first_back, first_zero, begins}
use Rattle.row_edges.specs.Links.{link_by}
use Rattle.row_edges.proofs.Linking.{link_at}
use Rattle.rotation.proofs.chain_first.Goals as goal

pub loop-r-preserved : goal.loop-r-preserved
loop-r-preserved g c =
    let loop = c.loop-r in
    let goes_on = g.E.HeldEdges.goes_on c.args.edges.now in
    let link : link_by goes_on (loop.r - 1) ≡ true =
    sym (link_at goes_on (omega arith)) ∙ sym c.goes_on.ensures ∙ c.if-not-goes_on.false in
    (search rules, search rules, first_back _ loop.r (search rules) link ∙ loop.invariant.2)

pub returns-then-not-goes_on : goal.returns-then-not-goes_on
returns-then-not-goes_on g c =
    let loop = c.loop-r in
    let goes_on = g.E.HeldEdges.goes_on c.args.edges.now in
    let z : loop.r - 1 + 1 ≡ loop.r = omega arith in
    let cut : link_by goes_on (loop.r - 1) ≡ false =
    sym (link_at goes_on (omega arith)) ∙ sym c.goes_on.ensures ∙ c.if-not-goes_on.true in
    (z ∙ sym (begins _ loop.r (search rules) cut) ∙ loop.invariant.2, omega arith)

pub returns : goal.returns
returns g c =
    let loop = c.loop-r in
    let z : loop.r ≡ 0 = omega arith in
    (sym (ap (first_of _) z ∙ first_zero _) ∙ loop.invariant.2, search rules)

-- `carried`: chain by chain; where one ends the next begins, and the last ends with the rows.
use mathlib.Core.Path.{◌≡◌, sym, ap, ◌∙◌}
use native.Mathlib.Omega.{arith}
use borrow.Author.Rules.{rules}
use Rattle.walk_laws.proofs.Page.{first_zero, onward}
use Rattle.carried_over.specs.Carried.{carried_of}
use Rattle.carried_over.proofs.Carrying.{carried_none, carried_onward}
use Rattle.carried_over.proofs.carried.Goals as goal

pub loop-first-init : goal.loop-first-init
loop-first-init g c = (omega arith, first_zero _, sym (carried_none _), omega arith)

pub loop-first-preserved : goal.loop-first-preserved
loop-first-preserved g c =
    let loop = c.loop-first in
    let chain = c.chain_of-chain.ensures in
    let next = onward _ c.args.engines c.requires.1 loop.invariant.1 chain.0 (search rules) in
    let more = carried_onward _ next chain.1 in (
      omega (arith, next.within),
      next.begins,
      omega (arith, c.carried_in-count.ensures.0, more),
      omega (arith, c.carried_in-count.ensures.1),
    )

pub returns : goal.returns
returns g c =
    let loop = c.loop-first in
    let all : loop.first ≡ c.args.engines = omega arith in
    (loop.invariant.2 ∙ ap (carried_of _) all, omega arith)

-- `lowest`: whatever test of numbers the closure computes, those that were passed fail it; so the one that it stops at is the first.
use Rattle.std.proofs.Common.{sym, ◌∙◌, arith, below_more}
use Rattle.laws.proofs.Search.{first_is, first_none}
use Rattle.search.proofs.lowest.Goals as goal

pub returns-then-test : goal.returns-then-test
returns-then-test g c =
    λ p before told.
    let passes = sym (told c.loop-k.k c.test.result c.loop-k.auto.k c.loop-k-test.true c.test.ensures) ∙ c.if-test.true in
    sym (first_is p c.args.end c.loop-k.k c.loop-k-test.true (c.loop-k.invariant p before told) passes)

pub loop-k-preserved : goal.loop-k-preserved
loop-k-preserved g c =
    λ p before told.
    let fails = sym (told c.loop-k.k c.test.result c.loop-k.auto.k c.loop-k-test.true c.test.ensures) ∙ c.if-test.false in
    below_more _ c.loop-k.k (c.loop-k.invariant p before told) fails

pub returns : goal.returns
returns g c =
    λ p before told.
    sym (first_none p c.args.end (λ k l. c.loop-k.invariant p before told k (omega arith)))

-- `pass_blocks`: each block is SA2's next, and its cut is kept; the first that comes short ends the pass.
use mathlib.Core.Path.{sym, ◌∙◌}
use native.Mathlib.Omega.{arith}
use borrow.Author.Rules.{rules}
use Rattle.share_pass.proofs.Passing.{passing_more, passing_stopped}
use Rattle.share_pass.proofs.pass_blocks.Goals as goal

pub loop-b-preserved : goal.loop-b-preserved
loop-b-preserved c =
    let shared = c.share_block-shared.ensures in
    let goes = sym shared.short_value ∙ c.if-shared.false in
    passing_more c.loop-b.invariant goes shared.cut_value.0 shared.next shared.units_after (search rules)
    (omega (arith, c.requires.blocks, c.loop-b.auto.cuts))

pub returns-then-shared : goal.returns-then-shared
returns-then-shared c =
    let shared = c.share_block-shared.ensures in
    passing_stopped c.loop-b.invariant (sym shared.short_value ∙ c.if-shared.true) shared.next (omega arith)

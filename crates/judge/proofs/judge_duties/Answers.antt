-- `judge_duties`: where T divides every period, the duty that 12 finds.
use Rattle.std.proofs.Common.{length, sym, ◌∙◌}
use borrow.Author.Tests.{lt-ltb}
use Rattle.paper.specs.Builder.{bad_slice}
use Rattle.paper.specs.Rules.{judge_duties}
use Rattle.judge.proofs.judge_duties.Goals as goal

pub returns-then-d-duties : goal.returns-then-d-duties
unfolding judge_duties
returns-then-d-duties c =
    let t = c.args.table.now in
    let divided = sym c.is_undivided.ensures ∙ c.if-is_undivided.false in
    let found = rw (c.bad_slice-d.ensures, c.duties.ensures.told) at c.if-d-duties.true in
    rw (divided, c.bad_slice-d.ensures, lt-ltb (bad_slice t.ticks t.duties) (length t.duties) found)

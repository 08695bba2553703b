-- `judge_service`: the run that 16 finds; or none, and the duty that 17 finds.
use Rattle.std.proofs.Common.{length}
use borrow.Author.Tests.{lt-ltb, le-ltb}
use Rattle.paper.specs.Rules.{twice, lowest, bad_sum}
use Rattle.judge_runs.proofs.judge_service.Goals as goal

pub returns-then-twice-runs : goal.returns-then-twice-runs
returns-then-twice-runs c =
    let runs = c.args.table.now.runs in
    let found = rw (c.lowest_twice-twice.ensures, c.runs.ensures.told) at c.if-twice-runs.true in
    rw (c.lowest_twice-twice.ensures, lt-ltb (lowest twice runs) (length runs) found)

pub returns-then-wrong-duties : goal.returns-then-wrong-duties
returns-then-wrong-duties c =
    let t = c.args.table.now in
    let none = rw (c.lowest_twice-twice.ensures, c.runs.ensures.told) at c.if-twice-runs.false in
    let found = rw (c.bad_sum-wrong.ensures, c.duties.ensures.told) at c.if-wrong-duties.true in
    rw (
      c.bad_sum-wrong.ensures,
      le-ltb (lowest twice t.runs) (length t.runs) none,
      lt-ltb (bad_sum t) (length t.duties) found,
    )

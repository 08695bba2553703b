-- `start_of`: the duty's last run where it starts before run k (`begin_last`), else the front of the list; both are spots before run k's.
use Rattle.std.proofs.Common.{sym, ◌∙◌}
use Rattle.table_laws.proofs.SortedRuns.{begin_last}
use Rattle.judge_lists.proofs.Lists.start_of.Goals as goal

pub returns-then-starts_before : goal.returns-then-starts_before
returns-then-starts_before c =
    let run = c.run-y.ensures in
    let pointer = c.from-pointer.ensures in
    rw (pointer, run.told)
    (begin_last c.args.table.now.runs c.requires.1.recent c.requires.0 (rw run.told at run.ranged.duty_below)
    (rw (← run.told, ← pointer) (sym c.starts_before.ensures ∙ c.if-starts_before.true)))

-- `is_twice`: the spot and its pointer are run k's two neighbours in its duty's list, and they are enough (`twice-told`).
use Rattle.table_laws.proofs.SortedRuns.{twice-told}
use Rattle.judge_lists.proofs.Lists.is_twice.Goals as goal

pub returns : goal.returns
returns c =
    let run = c.run-y.ensures.told in
    let pointer = c.pointer_at.ensures in
    let unstopped = c.stops_after-unstopped.ensures in
    twice-told c.requires.1 c.requires.2 c.requires.3 run pointer unstopped c.starts_before-started.ensures

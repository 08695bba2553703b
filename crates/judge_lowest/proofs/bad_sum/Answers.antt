-- `bad_sum`: the units of each duty are those of its runs.
use Rattle.std.proofs.Common.{ℕ, ◌<◌, ◌≡◌, get_or, rules}
use Rattle.laws.proofs.Lists.{get_or-tab}
use Rattle.paper.specs.Limits.{most_duties}
use Rattle.paper.specs.Rules.{units_of}
use Rattle.judge_lowest.proofs.bad_sum.Goals as goal

pub returns : goal.returns
returns c =
    let runs = c.args.table.now.runs in
    let units : (i : ℕ) → i < most_duties → get_or c.args.units.now i 0 ≡ units_of runs i =
    λ i h. rw c.requires (get_or-tab most_duties (units_of runs) 0 i h) in
    search (rules, c.lowest.ensures, units)

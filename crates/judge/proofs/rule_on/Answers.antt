-- `rule_on`: the rules hand on the very table that they are asked of, so the table in the bytes is accepted where they all pass it.
use Rattle.std.proofs.Common.{◌≡◌, sym}
use Rattle.paper.specs.Outcome.{answer}
use Rattle.paper.specs.Rules.{accepted, judge_table}
use Rattle.table_laws.proofs.AcceptedBytes.{accepted_ranged, accepted_meets}
use Rattle.judge_runs.proofs.Halves.{halves}
use Rattle.judge.proofs.rule_on.Goals as goal

pub new-requires : goal.new-requires
unfolding accepted judge_table
new-requires c =
    let t = c.in_ok-table.table in
    let all : accepted c.args.b.now ≡ answer t =
    rw (← c.in_ok-table.ensures, ← c.in_ok-judge_duties.ensures, halves t, ← c.in_ok-judge_rows.ensures)
    (sym c.in_ok-judge_service.ensures) in
    record { ranged = accepted_ranged _ t all; meets = accepted_meets _ t all; edges_are = c.tally.ensures.edges }

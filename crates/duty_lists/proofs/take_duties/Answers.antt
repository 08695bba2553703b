-- `take_duties`: each refusal is the one that the definition has after the tests that have failed; past them all the duties are taken, and
-- the lists are those of duties that were taken.
use mathlib.Core.Path.{◌≡◌, sym, ◌∙◌}
use native.Mathlib.Omega.{arith}
use borrow.Author.Rules.{rules}
use Rattle.paper.specs.Outcome.{answer}
use Rattle.paper.specs.Wanted.{Wanted, wanted, duty_set, taken}
use Rattle.plan_laws.proofs.Planned.{length_duties, duty_is}
use Rattle.plan_laws.proofs.TakenWhen.{Counts, counts_good, range_refused, ranges_taken}
use Rattle.duty_lists.proofs.AfterTests.{none_applies, sliceable, duties_by}
use Rattle.duty_lists.proofs.take_duties.Goals as goal
use Rattle.duty_lists.proofs.take_duties.Goals.{Else-not-is_within-2}

-- what is wanted
abbrev asked : Else-not-is_within-2 → Wanted
asked c = wanted c.args.engines c.args.services.now c.args.periods.now

-- past the third test none of 1 to 3 applies
past : (c : Else-not-is_within-2) → Counts (asked c)
past c =
    counts_good (asked c) (sym c.is_within.ensures ∙ c.if-not-is_within.false) (search rules)
    (sym c.is_within-2.ensures ∙ c.if-not-is_within-2.false)

pub returns-then-bad-duties : goal.returns-then-bad-duties
returns-then-bad-duties c =
    let x = asked (goal.at.returns-then-bad-duties c).Else-not-is_within-2 in
    let bad = c.bad_range-bad in
    let many = length_duties x.services x.periods in
    let refuses =
    range_refused x (past (goal.at.returns-then-bad-duties c).Else-not-is_within-2) bad.result bad.ensures (omega (arith, many)) in
    rw (refuses, duty_is x.services x.periods bad.result (search rules)) c.range_fault.ensures

pub new-requires : goal.new-requires
new-requires c =
    let x = asked (goal.at.new-requires c).Else-not-is_within-2 in
    let counts = past (goal.at.new-requires c).Else-not-is_within-2 in
    let many = length_duties x.services x.periods in
    let told : taken x ≡ answer (duty_set x) = ranges_taken x counts c.bad_range-bad.result c.bad_range-bad.ensures (omega (arith, many)) in
    duties_by (sliceable x (none_applies x told))

-- `form_of`: the head, the duty records, the runs, then the end record and nothing after it. Each answer goes by the tests that led to it.
use mathlib.Core.Path.{sym, ap, ◌∙◌}
use Prim.Native.Nat.{◌+◌}
use Rattle.paper.specs.Limits.{end_length}
use Rattle.paper.specs.Outcome.{refused}
use Rattle.table_form.proofs.GoodForm.{head_fault, duty_fault, end_fault, length_fault, formed}
use Rattle.table_form.proofs.form_of.Goals as goal

pub returns-in_default : goal.returns-in_default
returns-in_default c = head_fault _ c.in_default.ensures

pub returns-then-d-duties : goal.returns-then-d-duties
returns-then-d-duties c =
    ap (refused 10) c.duty_place.ensures
    ∙ duty_fault c.in-Some.ensures c.duties.ensures.told c.bad_duty-d.ensures c.if-d-duties.true

pub returns-then-not-end_good : goal.returns-then-not-end_good
returns-then-not-end_good c =
    ap (refused 10) c.run_place-at.ensures
    ∙ end_fault c.in-Some.ensures c.duties.ensures.told c.bad_duty-d.ensures c.if-d-duties.false c.good_runs-runs.ensures.told
    (sym c.end_good.ensures ∙ c.if-not-end_good.true)

pub returns-then-end-b : goal.returns-then-end-b
returns-then-end-b c =
    let at = c.run_place-at.ensures in
    ap (λ n. refused 10 (n + end_length)) at
    ∙ length_fault c.in-Some.ensures c.duties.ensures.told c.bad_duty-d.ensures c.if-d-duties.false c.good_runs-runs.ensures.told
    (sym c.end_good.ensures ∙ c.if-not-end_good.false) (rw at at c.if-end-b.true)

pub new-requires-2 : goal.new-requires-2
new-requires-2 c =
    let r = c.reading.ensures in
    formed c.in-Some.ensures c.duties.ensures.told c.bad_duty-d.ensures c.if-d-duties.false c.good_runs-runs.ensures.told
    (sym c.end_good.ensures ∙ c.if-not-end_good.false) _ r.0 r.1 r.2 r.3 (rw c.run_place-at.ensures at c.if-end-b.false)

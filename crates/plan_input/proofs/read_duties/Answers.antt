-- `read_duties`: the duties read so far and the lines that are left make up the whole; a line that fails its tests is the
-- faulty one.
use mathlib.Core.Path.{◌≡◌, sym, ◌∙◌}
use mathlib.Core.Bool.{true}
use native.Mathlib.Omega.{arith}
use borrow.Author.Rules.{rules}
use Rattle.laws.proofs.Writing.{lent-rest}
use Rattle.line_read.specs.Line.{line_good}
use Rattle.plan_input.proofs.LinesRead.{none_read, one_more, rest, Ahead, ahead, broken, finished}
use Rattle.plan_input.proofs.read_duties.Goals as goal
use Rattle.plan_input.proofs.read_duties.Goals.{Else-not-line_good}

-- a line that passed its test is good ..
good : (c : Else-not-line_good) →
    let loop = c.loop-at in
    line_good loop.i (rest c.args.b.now loop.at) c.find-end.result ≡ true
good c = sym c.line_good.ensures ∙ c.if-not-line_good.false

-- .. and leads on
next : (c : Else-not-line_good) →
    let loop = c.loop-at in
    Ahead c.args.b.now loop.i loop.at c.find-end.result
next c =
    let loop = c.loop-at in
    ahead c.args.b.now loop.i loop.at c.find-end.result (search rules) (good c)

pub loop-at-init : goal.loop-at-init
loop-at-init c = (search rules, search rules, none_read c.args.b.now)

pub returns-then-not-line_good : goal.returns-then-not-line_good
returns-then-not-line_good c =
    let b = c.args.b.now in
    let loop = c.loop-at in
    let bad = sym c.line_good.ensures ∙ c.if-not-line_good.true in
    broken b loop.services loop.periods c.args.engines loop.i loop.at (rest b loop.at) c.find-end.result
    loop.invariant.2 (lent-rest loop.at b) c.find-end.ensures.value (search rules) bad

pub loop-at-preserved : goal.loop-at-preserved
loop-at-preserved c =
    let passed = (goal.at.loop-at-preserved c).Else-not-line_good in
    let b = c.args.b.now in
    let loop = c.loop-at in (
      omega (arith, (next passed).1),
      (next passed).2,
      one_more b loop.services loop.periods loop.i loop.at (rest b loop.at) c.find-end.result c.duty_read-x.result
          loop.invariant.2 (lent-rest loop.at b) c.find-end.ensures.value (good passed) c.duty_read-x.ensures,
    )

pub returns : goal.returns
returns c =
    let args = c.args in
    let loop = c.loop-at in
    finished args.b.now loop.services loop.periods args.engines loop.i loop.at loop.invariant.2 (search rules)

-- `read_input`: not too long, a first line, and the duties of what is left after it.
use mathlib.Core.Path.{◌≡◌, sym, ap, ◌∙◌}
use mathlib.Core.Bool.{true, false}
use Prim.Native.Nat.{◌+◌}
use borrow.Author.Rules.{rules}
use Rattle.laws.proofs.Writing.{lent-rest}
use Rattle.paper.specs.Text.{input_read}
use Rattle.line_read.specs.Line.{first_good}
use Rattle.plan_input.proofs.Lines.{FirstParts, first-parts, input_long, input-line}
use Rattle.plan_input.proofs.read_input.Goals as goal
use Rattle.plan_input.proofs.read_input.Goals.{Else-not-first_line_good}

-- a first line that passed its test is good
good : (c : Else-not-first_line_good) → first_good c.args.b.now c.find-end.result ≡ true
good c = sym c.first_line_good.ensures ∙ c.if-not-first_line_good.false

parts : (c : Else-not-first_line_good) → FirstParts c.args.b.now c.find-end.result
parts c = first-parts c.args.b.now c.find-end.result (good c)

pub returns-then-b-gt-MOST_INPUT : goal.returns-then-b-gt-MOST_INPUT
returns-then-b-gt-MOST_INPUT c = ap input_read (sym (input_long c.args.b.now (search rules)))

pub returns-then-not-first_line_good : goal.returns-then-not-first_line_good
returns-then-not-first_line_good c =
    let bad = sym c.first_line_good.ensures ∙ c.if-not-first_line_good.true in
    let first = input-line c.args.b.now c.find-end.result false (search rules) c.find-end.ensures.value bad in
    ap input_read (sym first)

pub returns : goal.returns
returns c =
    let b = c.args.b.now in
    let end = c.find-end in
    let passed = (goal.at.returns c).Else-not-first_line_good in
    let first = input-line b end.result true (search rules) end.ensures.value (good passed) in
    c.read_duties.ensures ∙ rw (c.engines_read-engines.ensures, lent-rest (end.result + 1) b) (ap input_read (sym first))

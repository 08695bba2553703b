-- `print_duties`: after i turns the lines of the first i duties are written.
use mathlib.Core.Path.{◌≡◌, refl, ◌∙◌}
use mathlib.Core.List.{[], ◌∷◌}
use Prim.Native.Nat.{ℕ, ◌<◌}
use borrow.Author.Rules.{rules}
use native.Mathlib.Omega.{arith}
use lib.ListN.{length, get_or}
use Rattle.laws.proofs.Lists.{length-tab, get_or-tab}
use Rattle.laws.proofs.Writing.{length-lent}
use Rattle.paper.specs.declared.Duty.{Duty}
use Rattle.paper.specs.Duties.{duty_at}
use Rattle.paper.specs.Words.{Table}
use Rattle.paper.specs.Text.{print_line, duty_word, duty_line}
use Rattle.table_lines.proofs.TableLines.{duties_most, lining_start, lining_room, lining_more, lining_end}
use Rattle.table_lines.proofs.print_duties.Goals as goal
use Rattle.table_lines.proofs.print_duties.Invariants.{numbers_of}

-- the line of a duty that was read is that of its number
line : (t : Table) (i : ℕ) {x : Duty} {service period : ℕ} → i < length t.duties → x ≡ duty_at t.duties i → service ≡ x.service
    → period ≡ x.period → print_line duty_word (i ∷ service ∷ period ∷ []) ≡ duty_line t.duties (get_or (numbers_of t) i 0)
line t i h e f g = rw (get_or-tab (length t.duties) (λ j. j) 0 i h, f, g, e) refl

pub loop-i-init : goal.loop-i-init
loop-i-init c =
    let t = c.args.table.now in
    let count : length t.duties ≡ c.duties-count.result = omega arith in
    lining_start _ (length-tab _ (λ i. i) ∙ count) (duties_most c.duties-count.ensures.ranged)

pub print_line-at-requires : goal.print_line-at-requires
print_line-at-requires c =
    let loop = c.loop-i in
    let next = line c.args.table.now loop.i (omega arith) c.duty-x.ensures.told c.from.ensures c.from-in-loop-i.ensures in
    rw length-lent (omega (arith, lining_room 0 _ next loop.invariant (search rules)))

pub overflow_add-at : goal.overflow_add-at
overflow_add-at c =
    let loop = c.loop-i in
    let next = line c.args.table.now loop.i (omega arith) c.duty-x.ensures.told c.from.ensures c.from-in-loop-i.ensures in
    omega (arith, lining_room 0 _ next loop.invariant (search rules), c.print_line-at.ensures.0)

pub loop-i-preserved : goal.loop-i-preserved
loop-i-preserved c =
    let loop = c.loop-i in
    let put = c.print_line-at.ensures in
    let next = line c.args.table.now loop.i (omega arith) c.duty-x.ensures.told c.from.ensures c.from-in-loop-i.ensures in
    lining_more 0 _ _ _ next loop.invariant (search rules) put.0 put.1 (search rules)

pub returns : goal.returns
returns c =
    let all = lining_end c.loop-i.invariant (search rules) in
    record { puts = all.0; upper_bound = all.1 }

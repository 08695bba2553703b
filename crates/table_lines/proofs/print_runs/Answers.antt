-- `print_runs`: after k turns the lines of the first k runs are written.
use mathlib.Core.Path.{◌≡◌, refl}
use mathlib.Core.List.{[], ◌∷◌}
use Prim.Native.Nat.{ℕ}
use Rattle.paper.specs.declared.Run.{Run}
use lib.ListN.{length}
use borrow.Author.Rules.{rules}
use native.Mathlib.Omega.{arith}
use Rattle.laws.proofs.Writing.{length-lent}
use Rattle.paper.specs.Words.{run}
use Rattle.paper.specs.Text.{print_line, run_word, run_line}
use Rattle.table_lines.proofs.TableLines.{runs_most, lining_start, lining_room, lining_more, lining_end}
use Rattle.table_lines.proofs.print_runs.Goals as goal

pub loop-k-init : goal.loop-k-init
loop-k-init c =
    let count : length c.args.table.now.runs ≡ c.runs-count.result = omega arith in
    lining_start _ count (runs_most c.runs-count.ensures.ranged)

-- the line of a run that was read is that of its number
line : {x y : Run} {row duty first long : ℕ} → x ≡ y → row ≡ x.row.0 → duty ≡ x.duty → first ≡ x.first → long ≡ x.length
    → print_line run_word (row ∷ duty ∷ first ∷ long ∷ []) ≡ run_line y
line e f g h i = rw (f, g, h, i, e) refl

pub print_line-at-requires : goal.print_line-at-requires
print_line-at-requires c =
    let loop = c.loop-k in
    let next = line c.run-x.ensures.told c.from.ensures c.from-in-loop-k.ensures c.from-in-loop-k-2.ensures c.from-in-loop-k-3.ensures in
    rw length-lent (omega (arith, lining_room (run 0 0 0 0) _ next loop.invariant (search rules)))

pub overflow_add-at : goal.overflow_add-at
overflow_add-at c =
    let loop = c.loop-k in
    let next = line c.run-x.ensures.told c.from.ensures c.from-in-loop-k.ensures c.from-in-loop-k-2.ensures c.from-in-loop-k-3.ensures in
    omega (arith, lining_room (run 0 0 0 0) _ next loop.invariant (search rules), c.print_line-at.ensures.0)

pub loop-k-preserved : goal.loop-k-preserved
loop-k-preserved c =
    let loop = c.loop-k in
    let put = c.print_line-at.ensures in
    let next = line c.run-x.ensures.told c.from.ensures c.from-in-loop-k.ensures c.from-in-loop-k-2.ensures c.from-in-loop-k-3.ensures in
    lining_more (run 0 0 0 0) _ _ _ next loop.invariant (search rules) put.0 put.1 (search rules)

pub returns : goal.returns
returns c =
    let all = lining_end c.loop-k.invariant (search rules) in
    record { puts = all.0; upper_bound = all.1 }

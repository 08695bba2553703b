-- `print_line`: the word, the numbers behind it, the line feed behind both.
use mathlib.Core.Path.{◌≡◌, sym, ap}
use Prim.Native.Nat.{◌+◌, ◌<◌}
use mathlib.Core.List.{[], ◌∷◌}
use native.Mathlib.Omega.{arith}
use lib.ListN.{length}
use Rattle.laws.specs.Lists.{flat}
use Rattle.laws.proofs.Writing.{more, stored, moved, done, length-lent}
use Rattle.paper.specs.Text.{print_line}
use Rattle.number_print.specs.Spaced.{spaced}
use Rattle.line_print.proofs.Line.{word_written, line-length, line-room}
use Rattle.line_print.proofs.print_line.Goals as goal
use Rattle.line_print.proofs.print_line.Goals.{After-slice_known-2-1, After-slice_known-3-1, Start}

-- a line has its word, its numbers and the line feed
parts : (s : Start) →
    let word = s.args.word.now in
    let numbers = s.args.numbers.now in
    length (print_line word numbers) ≡ length word + length (flat spaced numbers) + 1
parts s = line-length s.args.word.now s.args.numbers.now

-- and all of it has room, where the numbers were put behind the word
room : (c : After-slice_known-3-1) →
    let word = c.args.word.now in
    let end = length word + c.print_numbers.result in
    (end < length c.args.out.now) × (end + 1 ≡ length (print_line word c.args.numbers.now))
room c =
    let put = c.print_numbers in
    line-room c.args.word.now c.args.numbers.now _ put.result c.requires put.ensures.0

pub put_bytes-requires : goal.put_bytes-requires
put_bytes-requires c =
    omega (arith, parts (goal.at.put_bytes-requires c).Start)

pub slice_bounds-print_numbers-count : goal.slice_bounds-print_numbers-count
slice_bounds-print_numbers-count c =
    omega (arith, parts (goal.at.slice_bounds-print_numbers-count c).Start)

pub slice_bounds-print_numbers-start : goal.slice_bounds-print_numbers-start
slice_bounds-print_numbers-start c = slice_bounds-print_numbers-count (goal.at.slice_bounds-print_numbers-start c).After-slice_known-2-1

pub print_numbers-requires : goal.print_numbers-requires
print_numbers-requires c =
    rw length-lent (omega (arith, parts (goal.at.print_numbers-requires c).Start))

pub overflow_add-end : goal.overflow_add-end
overflow_add-end c = omega (arith, room (goal.at.overflow_add-end c).After-slice_known-3-1)

pub bounds-out-end : goal.bounds-out-end
bounds-out-end c = omega (arith, room (goal.at.bounds-out-end c).After-slice_known-3-1)

pub overflow_add-result : goal.overflow_add-result
overflow_add-result c = omega (arith, room (goal.at.overflow_add-result c).After-slice_known-3-1)

pub returns : goal.returns
returns c =
    let word = c.args.word.now in
    let numbers = c.args.numbers.now in
    let first = c.put_bytes in
    let put = c.print_numbers in
    let both = more _ _ (10 ∷ []) _ (flat spaced numbers) _ _ (word_written word numbers _ _ first.ensures) put.ensures.1 in
    let all = stored _ _ [] _ 10 _ (moved (ap (λ n. length word + n) (sym put.ensures.0)) both)
    (room (goal.at.returns c).After-slice_known-3-1).0 in
    ((room (goal.at.returns c).After-slice_known-3-1).1, done _ _ _ _ all)

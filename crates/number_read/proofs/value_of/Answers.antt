-- `value_of`: the value so far with the digits that are left is that of all; it never passes nine digits.
use mathlib.Core.Path.{sym, ◌∙◌}
use Prim.Native.Nat.{◌+◌, ◌-◌, ◌*◌, ◌^◌, ◌<◌}
use borrow.Author.Rules.{rules}
use lib.ListN.{get_or}
use native.Mathlib.Omega.{arith}
use Rattle.paper.specs.Limits.{most_digits}
use Rattle.number_read.proofs.Numbers.{digit_at, number_digits, next_below, value_step, value_end}
use Rattle.number_read.proofs.value_of.Goals as goal
use Rattle.number_read.proofs.value_of.Goals.{In-loop-x}

-- every value on the way has nine digits at the most
fits : (c : In-loop-x)
    → c.loop-x.v * 10 + (get_or c.args.c.now c.loop-x.x-index 0 - 48) < 10 ^ most_digits
fits c =
    let loop = c.loop-x in
    next_below loop.v c.args.c.now loop.x-index c.requires (search rules) loop.invariant

pub overflow_mul-v : goal.overflow_mul-v
overflow_mul-v c = omega (arith, fits (goal.at.overflow_mul-v c).In-loop-x)

pub overflow_sub-x : goal.overflow_sub-x
overflow_sub-x c =
    let digits = c.args.c.now in
    (digit_at digits c.loop-x.x-index (number_digits digits c.requires).1 (search rules)).0

pub overflow_add-v : goal.overflow_add-v
overflow_add-v c = omega (arith, fits (goal.at.overflow_add-v c).In-loop-x)

pub loop-x-preserved : goal.loop-x-preserved
loop-x-preserved c =
    let loop = c.loop-x in
    rw c.from.ensures (sym (value_step loop.v c.args.c.now loop.x-index (search rules)) ∙ loop.invariant)

pub returns : goal.returns
returns c =
    let loop = c.loop-x in
    sym (value_end loop.v c.args.c.now loop.x-index (search rules)) ∙ loop.invariant

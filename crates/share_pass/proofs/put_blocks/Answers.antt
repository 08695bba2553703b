-- `put_blocks`: each block is SA2's next, by the cut that was kept of it, and is written where the one before has stopped.
use Prim.Native.Nat.{◌+◌, ◌≤◌, ◌<◌}
use mathlib.Core.Path.{◌≡◌, ap, ◌∙◌}
use native.Mathlib.Omega.{arith}
use borrow.Author.Rules.{rules}
use lib.ListN.{length}
use Rattle.std.proofs.lemmas.List.{length-take}
use Rattle.laws.proofs.Writing.{length-lent}
use Rattle.paper.specs.Sa2.{duty_count}
use Rattle.share_block.specs.Paced.{Pace, pace}
use Rattle.share_pass.proofs.Putting.{putting_none, putting_room, putting_more, putting_end}
use Rattle.share_pass.proofs.put_blocks.Goals as goal
use Rattle.share_pass.proofs.put_blocks.Goals.{In-loop-cut}

pub loop-cut-init : goal.loop-cut-init
loop-cut-init c = putting_none _ _ _ c.requires.start

-- the next block is one of them, and has room, so its place is in the list
next : (c : In-loop-cut) → c.loop-cut.cut-index < c.args.blocks
next c = omega (arith, c.loop-cut-test.true, c.requires.room.0, length-take c.args.blocks c.args.cuts.now)

room : (c : In-loop-cut) → c.loop-cut.at + duty_count c.args.paces.now.sharing ≤ length c.loop-cut.list
room c = putting_room c.loop-cut.invariant (next c) c.requires.room.1

pub offset_bounds-list-at : goal.offset_bounds-list-at
offset_bounds-list-at c =
    let placed : c.loop-cut.at ≤ length c.loop-cut.list = omega (arith, room (goal.at.offset_bounds-list-at c).In-loop-cut) in
    search rules

pub slice_bounds-share_by_cut-count : goal.slice_bounds-share_by_cut-count
slice_bounds-share_by_cut-count c = omega (arith, room (goal.at.slice_bounds-share_by_cut-count c).In-loop-cut)

pub slice_bounds-share_by_cut-start : goal.slice_bounds-share_by_cut-start
slice_bounds-share_by_cut-start c = omega (arith, room (goal.at.slice_bounds-share_by_cut-start c).In-loop-cut)

pub share_by_cut-requires-clause-room : goal.share_by_cut-requires-clause-room
share_by_cut-requires-clause-room c =
    let there = room (goal.at.share_by_cut-requires-clause-room c).In-loop-cut in
    let same = ap (λ (p : Pace). duty_count p.sharing) c.loop-cut.invariant.paced in
    rw length-lent (omega (arith, there, same))

pub overflow_add-at : goal.overflow_add-at
overflow_add-at c =
    let placed : c.loop-cut.at ≤ length c.loop-cut.list = omega (arith, room (goal.at.overflow_add-at c).In-loop-cut) in
    search rules

pub loop-cut-preserved : goal.loop-cut-preserved
loop-cut-preserved c =
    let share = c.share_by_cut.ensures in
    let here = next (goal.at.loop-cut-preserved c).In-loop-cut in
    putting_more c.loop-cut.invariant _ _ _ here c.duty_count-duties.ensures share.next share.units_after (search rules)

pub returns : goal.returns
returns c =
    let all = length-take c.args.blocks c.args.cuts.now in
    let end : c.loop-cut.cut-index ≡ c.args.blocks = omega (arith, c.loop-cut-test.false, c.requires.room.0, all, c.loop-cut.auto) in
    record {
      written = putting_end c.loop-cut.invariant (omega arith);
      next = c.loop-cut.invariant.paced ∙ ap (pace c.args.paces.now.sharing) end;
    }

-- Plans of shares past 1 to 5, 22 and 7: a tick's place on the line of its block tells who runs (`schedule_on_line`).
-- Assumes nothing.
use Prim.Native.Nat.{ℕ, ◌+◌, ◌*◌, ◌/◌, ◌%◌, ◌≤◌, ◌<◌}
use mathlib.Core.Path.{◌≡◌, sym, ap, ◌∙◌}
use mathlib.Core.List.{List}
use lib.ListN.{length, take}
use borrow.Author.Tests.{lt-ltb, le-ltb}
use Rattle.std.specs.Prelude.{Ok}
use Rattle.laws.specs.Lists.{over}
use Rattle.laws.proofs.Writing.{over-front}
use Rattle.paper.specs.declared.Engine.{Engine}
use Rattle.paper.specs.Duties.{Held}
use Rattle.paper.specs.Outcome.{answer}
use Rattle.paper.specs.Sa2.{Sharing, duty_count, allotments}
use Rattle.paper.specs.Shares.{blocks, entries_needed, steady, share_list, GivesShares}
use Rattle.plan_laws.proofs.Line.{on_line}
use Rattle.share_laws.proofs.OnLine.{allotments-length, schedule_on_line}
use Rattle.share_common.specs.Common.{Shareable}
use Rattle.share_plan.specs.AfterCount.{list_from, held_from}

module _ {s : Sharing} where
  -- the list is written where there is room and no block comes short
  pub listed :
      (m t n : ℕ) (before after : List ℕ) → m ≡ entries_needed s → m ≤ length before → steady s ≡ answer s → t ≡ s.ticks → n ≡ blocks s
      → after ≡ over (share_list s) before
      → GivesShares (list_from (length before) s) (Ok (record { entries = m; block_length = t; blocks = n })) before after
  listed m t n before after e l g f h w =
      let room : entries_needed s ≤ length before = rw (← e) l in
      let plan : list_from (length before) s ≡ answer s = rw (le-ltb (length before) (entries_needed s) room) g in
      record { said = rw (plan, e, f, h); left = rw (plan, w) }

  -- the units of the block that was kept are in front, and the place on its line tells
  pub held_on_line :
      (e : Engine) (tick keep count place : ℕ) (before after : List ℕ) (h : Held) → Shareable s → steady s ≡ answer s → e.0 < s.engines
      → keep ≡ tick / s.ticks % blocks s → after ≡ over (allotments s keep) before → count ≡ duty_count s
      → place ≡ e.0 * s.ticks + tick % s.ticks → h ≡ on_line (take count after) 0 0 place → answer h ≡ held_from e tick s
  held_on_line e tick keep count place before after h c g l q w m p r =
      let front : take count after ≡ allotments s keep =
      rw w (over-front (allotments s keep) before count (allotments-length s keep ∙ sym m)) in
      let here : h ≡ on_line (allotments s (tick / s.ticks % blocks s)) 0 0 (e.0 * s.ticks + tick % s.ticks) = r ∙ rw (front, p, q) in
      ap answer here ∙ rw (g, lt-ltb e.0 s.engines l, schedule_on_line s c.in_blocks.ranges c.in_blocks.ticks_some e tick)

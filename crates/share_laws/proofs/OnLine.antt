-- A block of SA2 is SA1's layout of its allotments, none of which is above T. So it lies on the line of SA1 (`plan_laws`, `Line`): who
-- holds unit u of row e is whoever's stretch has the place e·T + u. An engine keeps its row, so the schedule is read off the line of the
-- tick's block.
-- Assumes nothing.
use Prim.Native.Nat.{ℕ, ◌+◌, ◌*◌, ◌-◌, ◌/◌, ◌%◌, ◌≤◌, ◌<◌}
use mathlib.Core.Path.{◌≡◌}
use native.Mathlib.Nat.{mod-lt, zero-mul}
use native.Mathlib.Omega.{arith}
use lib.ListN.{length}
use Rattle.laws.proofs.Each.{Each, at_each}
use Rattle.laws.proofs.Lists.{length-tab}
use Rattle.paper.specs.declared.Engine.{Engine}
use Rattle.paper.specs.Words.{row, held_in}
use Rattle.paper.specs.Sa2.{Sharing, duty_count, raised_units, needs_at, allotments, laid_out}
use Rattle.paper.specs.Shares.{blocks, share_schedule}
use Rattle.paper.proofs.Passed.{Ranges}
use Rattle.plan_laws.proofs.Line.{on_line, line}
use Rattle.share_laws.proofs.Steps.{units_are, share_most}

-- one number of units for each duty
pub allotments-length : (s : Sharing) (b : ℕ) → length (allotments s b) ≡ duty_count s
unfolding allotments
allotments-length s b = length-tab (duty_count s) (λ i. raised_units s (needs_at s b) i - 1)

module _ (s : Sharing) (r : Ranges s.duties) where
  -- none above T
  pub allotments_most : (b : ℕ) → Each (λ n. n ≤ s.ticks) (allotments s b)
  allotments_most b =
      at_each (λ n. n ≤ s.ticks) 0 (allotments s b) (λ i h.
      let l : i < duty_count s = rw (← allotments-length s b) h in
      omega (arith, units_are s i l b, share_most s i l b (r i l).period_least (r i l).service_most))

  -- a block is on the line
  pub laid_on_line : (b e u : ℕ) → u < s.ticks → held_in (laid_out s b) (row e) u ≡ on_line (allotments s b) 0 0 (e * s.ticks + u)
  unfolding laid_out
  laid_on_line b e u h = rw (zero-mul s.ticks) at (line s.ticks (allotments s b) 0 0 0 e u (omega arith) h (allotments_most b))

  -- and so is the schedule: engine e at tick k has the place e·T + the tick's unit, on the line of the tick's block
  pub schedule_on_line :
      0 < s.ticks → (e : Engine) (k : ℕ)
      → share_schedule s e k ≡ on_line (allotments s (k / s.ticks % blocks s)) 0 0 (e.0 * s.ticks + k % s.ticks)
  unfolding share_schedule
  schedule_on_line t e k = laid_on_line (k / s.ticks % blocks s) e.0 (k % s.ticks) (mod-lt k t)

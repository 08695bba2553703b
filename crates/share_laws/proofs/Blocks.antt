-- The blocks up to the common multiple. It is the least common multiple of the periods: each divides it, and it divides whatever they all
-- divide. The block length divides every period, so it divides the common multiple, which is a whole number of blocks. The duties that were
-- taken are such duties.
-- Assumes nothing.
use Prim.Native.Nat.{ℕ, ◌*◌, ◌<◌, ◌∣◌}
use mathlib.Core.Path.{◌≡◌}
use native.Mathlib.Nat.{dvd_trans, div-mul_cancel, pos_of_dvd_of_pos, dvd-mul_right}
use native.Mathlib.Omega.{arith}
use Rattle.paper.specs.Wanted.{Wanted, duty_set}
use Rattle.paper.specs.Sa2.{Sharing, sharing, duty_count}
use Rattle.paper.specs.Shares.{common, blocks}
use Rattle.paper.proofs.Passed.{Ranges}
use Rattle.table_laws.proofs.Accepted.{block_divides}
use Rattle.plan_laws.proofs.TakenWhen.{Taken}
use Rattle.plan_laws.proofs.PlanWhen.{block_of}
use Rattle.plan_laws.proofs.Periods.{periods_divide, multiple_least, multiple_some}
use Rattle.plan_laws.proofs.Planned.{length_duties, block_least}
use Rattle.share_laws.proofs.Steps.{period_of, InBlocks}

module _ (s : Sharing) where
  -- every period divides the common multiple, ..
  pub common_divided : (i : ℕ) → i < duty_count s → period_of s i ∣ common s
  unfolding common
  common_divided = periods_divide s.duties

  -- .. and it divides whatever they all divide
  pub common_least : (m : ℕ) → ((i : ℕ) → i < duty_count s → period_of s i ∣ m) → common s ∣ m
  unfolding common
  common_least = multiple_least s.duties

  pub common_some : Ranges s.duties → 0 < common s
  unfolding common
  common_some = multiple_some s.duties

  module _ (c : InBlocks s) (some : 0 < duty_count s) where
    -- it is a whole number of blocks
    pub blocks_whole : blocks s * s.ticks ≡ common s
    unfolding blocks
    blocks_whole = div-mul_cancel s.ticks (dvd_trans s.ticks (c.ticks_divides 0 some) (common_divided 0 some))

    -- of one block or more
    pub blocks_some : 0 < blocks s
    blocks_some = pos_of_dvd_of_pos (rw blocks_whole at (dvd-mul_right (blocks s) s.ticks)) (common_some c.ranges)

    -- and of every duty's periods
    pub blocks_divided : (i : ℕ) → i < duty_count s → period_of s i ∣ blocks s * s.ticks
    blocks_divided i l = rw blocks_whole (common_divided i l)

-- ---- what was taken

-- the blocks of what is wanted
abbrev pub sharing_of : Wanted → Sharing
sharing_of x = sharing (block_of x) x.engines (duty_set x)

module _ (x : Wanted) (t : Taken x) where
  -- there are duties
  pub taken_some : 0 < duty_count (sharing_of x)
  taken_some = omega (arith, t.counts.duties, length_duties x.services x.periods)

  -- and their periods are whole numbers of blocks
  pub taken_in_blocks : InBlocks (sharing_of x)
  taken_in_blocks = record {
    ranges = t.ranges;
    ticks_some = block_least (duty_set x) taken_some t.ranges;
    ticks_divides =
        block_divides (duty_set x);
  }

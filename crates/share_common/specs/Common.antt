-- What is known of the duties whose blocks are shared out.
use Rattle.std.specs.Prelude.{ℕ, ◌≤◌, ◌<◌, ◌≡◌}
use Rattle.paper.specs.Limits.{most_engines, most_duties, most_ticks, most_share_blocks}
use Rattle.paper.specs.Sa2.{Sharing, duty_count}
use Rattle.paper.specs.Shares.{blocks}
use Rattle.share_laws.proofs.Steps.{InBlocks}

-- duties that were taken, in blocks whose length divides their periods
pub record Shareable (s : Sharing) : Type 0 where
  pub in_blocks : InBlocks s
  pub ticks_most : s.ticks ≤ most_ticks
  pub engines_most : s.engines ≤ most_engines
  pub some : 1 ≤ duty_count s
  pub few : duty_count s ≤ most_duties

-- and so many blocks
pub record Counted (s : Sharing) (n : ℕ) : Type 0 where
  pub shareable : Shareable s
  pub blocks_are : n ≡ blocks s
  pub blocks_some : 0 < n
  pub blocks_few : n ≤ most_share_blocks

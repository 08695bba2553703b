-- A chain that is at hand on the way over the rows.
use Rattle.std.specs.Prelude.{ℕ, ◌+◌, ◌≤◌, ◌<◌, Bool}
use Rattle.paper.specs.Limits.{most_engines}
use Rattle.rotation.specs.declared.Turned.{Turned}
use Rattle.rotation.specs.Turning.{IsTurned}

-- where it reaches as far as row r, it is r's, turned as in block b
pub record AtHand (c : ℕ → Bool) (b r : ℕ) (x : Turned) : Type 0 where
  pub most : x.chain.first.0 + x.chain.length ≤ most_engines + 1
  pub reaches : r < x.chain.first.0 + x.chain.length → IsTurned c b r x

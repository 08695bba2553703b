-- What is known of the two lists on the way: that they belong together, and that their duties are in range.
use Rattle.std.specs.Prelude.{ℕ, ◌≤◌, ◌<◌, ◌≡◌, List, length}
use Rattle.paper.specs.Duties.{duty_at}
use Rattle.paper.specs.Limits.{most_duties, most_ticks}
use Rattle.paper.specs.Wanted.{duties_of}
use Rattle.paper.specs.Statements.{DutyRanged}

-- two lists of one length, of no more duties than a table has
pub record Paired (ss ps : List ℕ) : Type 0 where
  pub same : length ss ≡ length ps
  pub few : length ss ≤ most_duties

-- what the tests up to refusal 5 have made sure of, and a block length in range
pub record Sliceable (t : ℕ) (ss ps : List ℕ) : Type 0 where
  pub paired : Paired ss ps
  pub ticks_least : 1 ≤ t
  pub ticks_most : t ≤ most_ticks
  pub ranged : (i : ℕ) → i < length ss → DutyRanged (duty_at (duties_of ss ps) i)

-- What is true of duties that were taken, and of the duties of a value.
use Rattle.std.specs.Prelude.{ℕ, ◌≤◌, ◌<◌, List, length}
use Rattle.paper.specs.declared.Duty.{Duty}
use Rattle.paper.specs.Duties.{duty_at}
use Rattle.paper.specs.Limits.{most_duties}
use Rattle.paper.specs.Statements.{DutyRanged}

-- they are no more than a table has, and each is in range
pub record Listed (ds : List Duty) : Type 0 where
  pub few : length ds ≤ most_duties
  pub ranged : (i : ℕ) → i < length ds → DutyRanged (duty_at ds i)

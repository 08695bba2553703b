-- Document 02, request 7: what it is that a schedule meets duties on so many engines, and that there is one. Nothing here knows of blocks,
-- rows, slices or tables, nor of any way to find a schedule.
use Rattle.std.specs.Prelude.{ℕ, ◌≤◌, ◌<◌, List, length}
use Rattle.paper.specs.declared.Duty.{Duty}
use Rattle.paper.specs.Duties.{duty_at, job_start}
use Rattle.paper.specs.Schedule.{Schedule, given, served}

-- "a schedule on that many engines in which, tick by tick, an engine has at most one duty": it is a function of engine and tick; "a duty at
-- most one engine, and every job gets its service inside its own period". A job may get more: so where there is no such schedule, there is
-- none with exactly the service either
pub record MeetsDuties (m : ℕ) (ds : List Duty) (s : Schedule) : Type 0 where
  pub one_engine : (i k : ℕ) → i < length ds → given m s i k ≤ 1
  pub in_time : (i q : ℕ) → i < length ds → (duty_at ds i).service ≤ served m s i (job_start (duty_at ds i) q) (duty_at ds i).period

-- "these duties have [a] schedule on that many engines"
pub record Possible (m : ℕ) (ds : List Duty) : Type 0 where
  pub schedule : Schedule
  pub meets : MeetsDuties m ds schedule

-- m is the least number of engines on which they have one
pub record FewestEngines (m : ℕ) (ds : List Duty) : Type 0 where
  pub possible : Possible m ds
  pub none_below : (k : ℕ) → k < m → Possible k ds → ⊥

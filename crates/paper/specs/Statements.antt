-- What it means that a table is in form and meets the rules, as plain sentences over all runs and duties, with no search and no place.
use Rattle.std.specs.Prelude.{ℕ, ◌+◌, ◌*◌, ◌≤◌, ◌<◌, ◌≡◌, true, List, length}
use Rattle.std.specs.Int.{◌∣◌}
use Rattle.paper.specs.declared.Duty.{Duty}
use Rattle.paper.specs.declared.Run.{Run}
use Rattle.paper.specs.Duties.{duty_at}
use Rattle.paper.specs.Words.{stop, slice, Table, run_at}
use Rattle.paper.specs.Limits.{Width, most_ticks}
use Rattle.paper.specs.Rules.{before, units_of}

-- "period 1 to 1,000,000, service 1 to its period"
pub record DutyRanged (x : Duty) : Type 0 where
  pub period_least : 1 ≤ x.period
  pub period_most : x.period ≤ most_ticks
  pub service_least : 1 ≤ x.service
  pub service_most : x.service ≤ x.period

-- "row and duty below their counts; length at least 1; first + length at most T"
pub record RunRanged (t m n : ℕ) (x : Run) : Type 0 where
  pub row_below : x.row.0 < m
  pub duty_below : x.duty < n
  pub some_units : 1 ≤ x.length
  pub inside : stop x ≤ t

-- no field is out of range
pub record Ranged (w : Width) (t : Table) : Type 0 where
  pub ticks_least : 1 ≤ t.ticks
  pub ticks_most : t.ticks ≤ most_ticks
  pub engines_least : 1 ≤ t.engines
  pub engines_most : t.engines ≤ w.most_engines
  pub duties_least : 1 ≤ length t.duties
  pub duties_most : length t.duties ≤ w.most_duties
  pub runs_most : length t.runs ≤ w.most_runs
  pub duty_ranged_lem : (i : ℕ) → i < length t.duties → DutyRanged (duty_at t.duties i)
  pub run_ranged_lem : (k : ℕ) → k < length t.runs → RunRanged t.ticks t.engines (length t.duties) (run_at t.runs k)

-- unit u is one of run x's
abbrev pub Has : Run → ℕ → Type 0
Has x u = (x.first ≤ u) × (u < stop x)

-- no unit is in both
abbrev pub Apart : Run → Run → Type 0
Apart x y = (u : ℕ) → Has x u → Has y u → ⊥

-- t is a "common divisor of all periods"
abbrev pub CommonDivisor : ℕ → List Duty → Type 0
CommonDivisor t ds = (i : ℕ) → i < length ds → t ∣ (duty_at ds i).period

-- rules 11 to 17
pub record Meets (t : Table) : Type 0 where
  -- 11: T divides every period
  pub block_length : CommonDivisor t.ticks t.duties
  -- 12: every slice is whole
  pub slices_whole : (i : ℕ) → i < length t.duties → (duty_at t.duties i).period ∣ t.ticks * (duty_at t.duties i).service
  -- 13: every run is after its forerunner by (row, first unit)
  pub in_order : (k : ℕ) → k + 1 < length t.runs → before (run_at t.runs k) (run_at t.runs (k + 1)) ≡ true
  -- 14: no run shares a unit with an earlier run of its row
  pub apart_in_row : (j k : ℕ) → j < k → k < length t.runs → (run_at t.runs j).row.0 ≡ (run_at t.runs k).row.0
      → Apart (run_at t.runs j) (run_at t.runs k)
  -- 15: no run starts where one of the same row and duty stops, be it earlier or later
  pub not_joined : (j k : ℕ) → j < length t.runs → k < length t.runs → (run_at t.runs j).row.0 ≡ (run_at t.runs k).row.0
      → (run_at t.runs j).duty ≡ (run_at t.runs k).duty → stop (run_at t.runs j) ≡ (run_at t.runs k).first → ⊥
  -- 16: no run shares a unit with an earlier run of its duty on another row
  pub apart_of_duty : (j k : ℕ) → j < k → k < length t.runs → (run_at t.runs j).duty ≡ (run_at t.runs k).duty
      → ((run_at t.runs j).row.0 ≡ (run_at t.runs k).row.0 → ⊥) → Apart (run_at t.runs j) (run_at t.runs k)
  -- 17: the runs of each duty add up to its slice
  pub sums_right : (i : ℕ) → i < length t.duties → units_of t.runs i ≡ slice t.ticks (duty_at t.duties i)

-- What is laid by SA1: duties, a block length in range, and as many rows as there are engines.
use Rattle.std.specs.Prelude.{ℕ, ◌≤◌, List}
use Rattle.paper.specs.declared.Duty.{Duty}
use Rattle.paper.specs.Limits.{most_ticks}

pub record Laid : Type 0 where
  pub ticks : ℕ
  pub engines : ℕ
  pub duties : List Duty

abbrev pub laying : ℕ → ℕ → List Duty → Laid
laying t m ds = record { ticks = t; engines = m; duties = ds }

-- what every such value has
pub record Layable (s : Laid) : Type 0 where
  pub ticks_least : 1 ≤ s.ticks
  pub ticks_most : s.ticks ≤ most_ticks

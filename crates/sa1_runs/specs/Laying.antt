-- SA1 on its way: "Keep a row and a unit".
use Rattle.std.specs.Prelude.{ℕ, ◌+◌, ◌*◌, ◌-◌, List, leb}
use Rattle.laws.specs.Choice.{pick}
use Rattle.paper.specs.declared.Run.{Run}
use Rattle.paper.specs.Words.{row, run}
use Rattle.paper.specs.Sa1.{lay_one, lay, row_after, unit_after}
use Rattle.sa1_runs.specs.declared.Place.{Place}

-- the place where the next duty starts, after a slice of n
abbrev pub place_after : ℕ → ℕ → Place → Place
place_after t n p = record { row = row (row_after t n p.row.0 p.unit); unit = unit_after t n p.unit }

-- ".. both 0 at first"
abbrev pub corner : Place
corner = record { row = row 0; unit = 0 }

-- a slice of so many units, where a row has so many, from a place on
pub record Cut : Type 0 where
  pub ticks : ℕ
  pub units : ℕ
  pub from : Place

abbrev pub cut : ℕ → ℕ → Place → Cut
cut t n p = record { ticks = t; units = n; from = p }

-- a duty's runs, and those of all slices, from a place on
abbrev pub laid_at : ℕ → ℕ → ℕ → Place → List Run
laid_at t n i p = lay_one t n i p.row.0 p.unit

abbrev pub laid_from : ℕ → List ℕ → ℕ → Place → List Run
laid_from t ns i p = lay t ns i p.row.0 p.unit

-- how many runs a duty has that starts at unit u: one, or two where it is split
unfoldable pub runs_at : (t n u : ℕ) → ℕ
runs_at t n u = pick (leb (u + n) t) 1 2

-- a duty's first run: all of its slice, or what the row has left; and the second of a split duty, which has the rest
abbrev pub first_run : (t n i : ℕ) → Place → Run
first_run t n i p = run p.row.0 i p.unit (pick (leb (p.unit + n) t) n (t - p.unit))

abbrev pub second_run : (t n i : ℕ) → Place → Run
second_run t n i p = run (p.row.0 + 1) i 0 (p.unit + n - t)

-- the units before a place, row by row
abbrev pub units_to : ℕ → Place → ℕ
units_to t p = p.row.0 * t + p.unit

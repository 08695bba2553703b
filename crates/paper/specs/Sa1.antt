-- Document 01, "SA1". Where 004's step 2 gives the bounds of a split duty's second run in terms of the old time unit, this page decides:
-- the run has what is left.
use Rattle.std.specs.Prelude.{ℕ, ◌+◌, ◌-◌, List, [], ◌∷◌, ◌++◌, map, leb, ltb}
use Rattle.laws.specs.Choice.{pick}
use Rattle.paper.specs.declared.Duty.{Duty}
use Rattle.paper.specs.declared.Run.{Run}
use Rattle.paper.specs.Words.{run, slice, Table}

-- "A duty gets N units from there. If they reach exactly the end of the row it has one run .. If they go past the end, the duty is split:
-- its first run goes to the end of the row, its second starts at unit 0 of the next row and has what is left."
unfoldable pub lay_one : (t n i r u : ℕ) → List Run
lay_one t n i r u = pick (leb (u + n) t) (run r i u n ∷ []) (run r i u (t - u) ∷ run (r + 1) i 0 (u + n - t) ∷ [])

-- the row and the unit where the next duty starts: "unit 0 of the next row" at an exact fit, after the second run at a split
unfoldable pub row_after : (t n r u : ℕ) → ℕ
row_after t n r u = pick (ltb (u + n) t) r (r + 1)

unfoldable pub unit_after : (t n u : ℕ) → ℕ
unit_after t n u = pick (ltb (u + n) t) (u + n) (u + n - t)

-- "Take the duties in order. Keep a row and a unit": the runs of the slices, the first of them duty i's, from row r and unit u on
unfoldable pub lay : ℕ → List ℕ → (i r u : ℕ) → List Run
lay t [] i r u = []
lay t (n ∷ ns) i r u = lay_one t n i r u ++ lay t ns (i + 1) (row_after t n r u) (unit_after t n u)

-- the slices of all duties
abbrev pub slices : ℕ → List Duty → List ℕ
slices t ds = map (slice t) ds

-- ".. both 0 at first": SA1's table
unfoldable pub sa1 : ℕ → ℕ → List Duty → Table
sa1 t m ds = record { ticks = t; engines = m; duties = ds; runs = lay t (slices t ds) 0 0 0 }

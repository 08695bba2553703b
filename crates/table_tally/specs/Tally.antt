-- What one pass over the runs of a table gathers: the units of each duty, and which duty holds the first and which the last unit of each
-- row.
use Rattle.std.specs.Prelude.{ℕ, ◌+◌, ◌-◌, List}
use Rattle.laws.specs.Lists.{tab}
use Rattle.paper.specs.declared.Run.{Run}
use Rattle.paper.specs.Limits.{most_duties, most_engines}
use Rattle.paper.specs.Words.{row, Table, held_in}
use Rattle.paper.specs.Rules.{units_of}
use Rattle.row_edges.specs.declared.RowEdges.{RowEdges}

-- the units of all runs of each duty that there may be
abbrev pub units_in : Table → List ℕ
units_in t = tab most_duties (λ i. units_of t.runs i)

-- what holds the edges of row r, by some runs in blocks of t ticks
abbrev pub edges_at : List Run → ℕ → ℕ → RowEdges
edges_at xs t r = record { first = held_in xs (row r) 0; last = held_in xs (row r) (t - 1) }

-- of all rows that there may be, and of one row past them, which is idle
abbrev pub edges_of : Table → List RowEdges
edges_of t = tab (most_engines + 1) (edges_at t.runs t.ticks)

-- The walk of a table: the schedule that its rows and the rotation make, and its loads.
use Rattle.std.specs.Prelude.{ℕ, ◌*◌, ◌/◌, ◌%◌}
use Rattle.paper.specs.Words.{Table, held_in}
use Rattle.paper.specs.Rotation.{link, row_at}
use Rattle.paper.specs.Schedule.{Schedule, loads_in}

-- "Block b has the ticks from b·T on; a unit is a tick's place in its block": engine e runs, at tick k, what stands at the tick's unit on
-- the row that the walk gives the engine in the tick's block
unfoldable pub walk : Table → Schedule
walk t e k = held_in t.runs (row_at (link t) (k / t.ticks) e) (k % t.ticks)

-- the loads of a table's first B blocks: every tick and every engine counted
unfoldable pub loads : Table → ℕ → ℕ
loads t b = loads_in t.engines (walk t) (b * t.ticks)

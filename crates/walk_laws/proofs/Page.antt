-- THE WALK, as those see it who stand on it. A room that works out something of the walk without walking takes its laws from this page and
-- opens none of the definitions below it: not which rows are linked and chained, not which row an engine has in a block, not what it runs
-- at a tick, not what a load is. So one of these may move, with the laws of this crate, and such a room stays.
-- Assumes nothing.
use Prim.Native.Nat.{ℕ, ◌+◌, ◌*◌, ◌-◌, ◌/◌, ◌%◌, ◌≤◌, ◌<◌}
use mathlib.Core.Path.{◌≡◌, refl}
use mathlib.Core.Bool.{Bool}
use mathlib.Core.List.{[]}
use native.Mathlib.Omega.{arith}
use lib.Dec.{eqb}
use lib.ListN.{length}
use Rattle.laws.specs.Choice.{pick, one_if}
use Rattle.laws.specs.Sum.{sum_to}
use Rattle.paper.specs.declared.Engine.{Engine}
use Rattle.std.specs.Prelude.{Some}
use Rattle.paper.specs.Limits.{Width}
use Rattle.paper.specs.Duties.{engine, job_start, duty_at, same}
use Rattle.paper.specs.Words.{row, Table, held_in}
use Rattle.paper.specs.Rotation.{first_of, next_of, link, row_at, chains_below}
use Rattle.paper.specs.Walk.{walk, loads}
use Rattle.paper.specs.Schedule.{given, served}
use Rattle.paper.specs.Capacity.{MeetsDuties}
use Rattle.paper.specs.Statements.{Ranged, Meets}
use Rattle.paper.proofs.Links.{closed, rows_end}
use Rattle.paper.proofs.Loads.{carries}
use Rattle.paper.proofs.Capacity.{exactly_meets}
use Rattle.paper.proofs.Rotation.{row_below}
use Rattle.walk_laws.proofs.Service.{meets_serving, one_engine, job_served, never_twice}
use Rattle.walk_laws.proofs.Starts.{laid, later_runs, loads_met}
-- ---- links c, whatever they are

-- the first row of a row's chain: row 0's is itself; along a link it is the same; where there is none a chain begins
pub use Rattle.paper.proofs.Rotation.{first_zero, first_back, first_on, begins}
-- the engine whose row an engine takes next: along a link the one numbered one higher, from the last of a chain its first
pub use Rattle.paper.proofs.Rotation.{next_linked, next_last}
-- the walk over the rows: in block 0 the row of the engine's number, and from each block to the next the next engine's row
pub use Rattle.paper.proofs.Rotation.{row_start, row_after_lem}
-- along links, however many, the first row is the same
pub use Rattle.walk_laws.proofs.Chains.{first_along}
-- `InChain c e x`: row e is in the chain x, which is linked all along and not at its end. A row's first and last row make one; each of its
-- rows is in it; it begins with the first row of each
pub use Rattle.walk_laws.proofs.Chains.{InChain, in_chain, chain_other, chain_first}
-- the closed form of the rotation: b blocks on, an engine's row is b places further round its chain
pub use Rattle.walk_laws.proofs.Chains.{row_reduced}
-- from chain to chain: each begins where the one before ends, and the list of chains has one more
pub use Rattle.walk_laws.proofs.Chains.{Onward, onward, chains_onward}
-- what is carried over a boundary of a table's blocks
pub use Rattle.paper.proofs.Loads.{carried}

-- no chain begins below row 0
pub chains_none : (c : ℕ → Bool) (m : ℕ) → chains_below c m 0 ≡ []
unfolding chains_below
chains_none c m = refl

-- ---- a table, whatever it is

-- at a tick an engine runs what stands on its row of the tick's block, at the tick's unit
pub walk_is : (t : Table) (e : Engine) (k : ℕ) → walk t e k ≡ held_in t.runs (row_at (link t) (k / t.ticks) e) (k % t.ticks)
unfolding walk
walk_is t e k = refl

-- what is carried: at how many rows the duty at the end goes on at the start of the next row of the row's engine
pub carried_is : (t : Table)
    → carried t ≡ sum_to t.engines
    (λ r. one_if (same (held_in t.runs (row r) (t.ticks - 1)) (held_in t.runs (row (next_of (link t) r)) 0)))
unfolding carried carries
carried_is t = refl

-- ---- a table in range

module _ (w : Width) (t : Table) (g : Ranged w t) where
  -- its last row's chain ends with it, so that the rows of its engines are its rows
  pub rows_close : first_of (link t) t.engines ≡ t.engines
  rows_close = rows_end t (closed w t g)

  pub row_few : (b e : ℕ) → e < t.engines → (row_at (link t) b (engine e)).0 < t.engines
  row_few = row_below (link t) t.engines rows_close

  -- ---- that meets the rules

  module _ (o : Meets t) where
    -- service: in its ticks each job of each duty runs for the duty's service
    pub served_jobs :
        (i : ℕ) → i < length t.duties → (q : ℕ)
        → served t.engines (walk t) i (job_start (duty_at t.duties i) q) (duty_at t.duties i).period ≡ (duty_at t.duties i).service
    served_jobs = job_served t g o

    -- exclusion: at each tick a duty runs on one engine at most
    pub not_twice : (i k : ℕ) → given t.engines (walk t) i k ≤ 1
    not_twice = never_twice t g o

    pub same_engine : (i k e d : ℕ) → walk t (engine e) k ≡ Some i → walk t (engine d) k ≡ Some i → e ≡ d
    same_engine = one_engine t (meets_serving g o)

    -- so it is a schedule that meets the duties on the table's engines
    pub walk_meets : MeetsDuties t.engines t.duties (walk t)
    walk_meets = exactly_meets t.engines t.duties (walk t) (λ i k l. not_twice i k) (λ i q l. served_jobs i l q)

    -- loads: of the first n blocks, one for each run in the first and in each later one as many but for what is carried, which is no more
    -- than the runs are
    pub loads_are : (n : ℕ) → loads t n ≡ pick (eqb n 0) 0 (length t.runs + (n - 1) * (length t.runs - carried t))
    loads_are = loads_met w t g o

    pub carried_few : carried t ≤ length t.runs
    carried_few = omega (arith, later_runs t (closed w t g) (laid w t g o))

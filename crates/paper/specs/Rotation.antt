-- Document 01, "Rotation": chains, and which row an engine runs in a block. A `link` says of each row r whether row r+1 is chained to it.
use Rattle.std.specs.Prelude.{ℕ, zero, suc, ◌+◌, ◌-◌, Bool, List, [], ◌∷◌, ◌++◌, eqb}
use Rattle.laws.specs.Choice.{pick, one_if}
use Rattle.laws.specs.Sum.{sum_to}
use Rattle.paper.specs.declared.Row.{Row}
use Rattle.paper.specs.declared.Engine.{Engine}
use Rattle.paper.specs.declared.Chain.{Chain}
use Rattle.paper.specs.Duties.{engine, same}
use Rattle.paper.specs.Words.{row, Table, held_in}

-- "Row r+1 is chained to row r if one duty holds the last unit of r and the first unit of r+1."
unfoldable pub link : Table → ℕ → Bool
link t r = same (held_in t.runs (row r) (t.ticks - 1)) (held_in t.runs (row (r + 1)) 0)

-- "Maximal strings of chained rows are chains; a row alone is a chain of length 1": the first row of r's chain
unfoldable pub first_of : (ℕ → Bool) → ℕ → ℕ
first_of c zero = zero
first_of c (suc r) = pick (c r) (first_of c r) (suc r)

-- "inside each chain, an engine takes the row that the engine numbered one higher had, and the chain's last engine takes the row that its
-- first had (004, section 2.2)": the engine whose row engine e takes
unfoldable pub next_of : (ℕ → Bool) → ℕ → ℕ
next_of c e = pick (c e) (e + 1) (first_of c e)

-- the walk: "In block 0 engine i runs row i. From one block to the next .."
unfoldable pub row_at : (ℕ → Bool) → ℕ → Engine → Row
row_at c zero e = row e.0
row_at c (suc b) e = row_at c b (engine (next_of c e.0))

-- how many of the first m rows are in the chain that begins at row r
unfoldable pub chain_length : (ℕ → Bool) → ℕ → ℕ → ℕ
chain_length c m r = sum_to m (λ k. one_if (eqb (first_of c k) r))

-- a chain, by its first row and how many rows it has
abbrev pub chain : ℕ → ℕ → Chain
chain r n = record { first = row r; length = n }

-- the chains of m rows that begin below row k, by their first row
unfoldable pub chains_below : (ℕ → Bool) → ℕ → ℕ → List Chain
chains_below c m zero = []
chains_below c m (suc k) = chains_below c m k ++ pick (eqb (first_of c k) k) (chain k (chain_length c m k) ∷ []) []

abbrev pub chains : Table → List Chain
chains t = chains_below (link t) t.engines t.engines

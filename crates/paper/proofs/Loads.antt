-- The count of loads of a table's first B blocks, block by block.
-- Inside a block an engine's loads are those of its row. At a block's first unit they turn on the row that the engine had in the block
-- before and the row it has now, which is the next of that: on the earlier row alone. In every block the engines' rows are all rows, each
-- once, so every block after the first has as many loads. And what a later block lacks of the first are the rows whose duty goes on over
-- the boundary.
-- Assumes nothing.
use Prim.Native.Nat.{ℕ, zero, suc, ◌+◌, ◌-◌, ◌*◌, ◌≤◌, ◌<◌}
use mathlib.Core.Path.{◌≡◌, refl, ap, ◌∙◌}
use mathlib.Core.Bool.{Bool, not, ◌&&◌}
use native.Mathlib.Nat.{zero-mul, suc-mul, add-suc}
use native.Mathlib.Numerals.{add-one}
use native.Mathlib.Omega.{arith}
use lib.Arith.{digits_div, digits_mod}
use Rattle.laws.specs.Choice.{one_if}
use Rattle.laws.specs.Sum.{sum_to}
use Rattle.laws.proofs.Cases.{by_cases}
use Rattle.laws.proofs.Sum.{sum_ext, sum_suc, sum_none, sum_one, sum_first, sum_plus, sum_swap, sum_blocks}
use Rattle.paper.specs.declared.Engine.{Engine}
use Rattle.std.specs.Prelude.{None, Some}
use Rattle.paper.specs.Duties.{Held, engine, same, busy}
use Rattle.paper.specs.Words.{row, Table, held_in}
use Rattle.paper.specs.Rotation.{link, next_of, row_at}
use Rattle.paper.specs.Walk.{walk, loads}
use Rattle.paper.specs.Schedule.{Schedule, load, loads_in}
use Rattle.paper.proofs.Holding.{same_sym}
use Rattle.paper.proofs.Links.{Closed, rows_end}
use Rattle.paper.proofs.Rotation.{next_sum, row_next, row_sum}

-- 1 where a duty is run now that was not run before
abbrev pub fresh : Held → Held → ℕ
fresh now before = one_if (busy now && not (same now before))

-- the loads of a row's engine: at unit 0 in the first block, and at the units after it in every block
unfoldable pub opening : Table → ℕ → ℕ
opening t r = one_if (busy (held_in t.runs (row r) 0))

unfoldable pub inside : Table → ℕ → ℕ
inside t r = sum_to (t.ticks - 1) (λ u. fresh (held_in t.runs (row r) (suc u)) (held_in t.runs (row r) u))

-- the load at unit 0 of the engine that had row r in the block before
unfoldable pub boundary : Table → ℕ → ℕ
boundary t r = fresh (held_in t.runs (row (next_of (link t) r)) 0) (held_in t.runs (row r) (t.ticks - 1))

-- the loads of a block after the first
unfoldable pub later : Table → ℕ
later t = sum_to t.engines (boundary t) + sum_to t.engines (inside t)

-- the duty at the end of row r goes on over the boundary: the engine that had r has it at unit 0 of its next row too
unfoldable pub carries : Table → ℕ → Bool
carries t r = same (held_in t.runs (row r) (t.ticks - 1)) (held_in t.runs (row (next_of (link t) r)) 0)

-- at how many rows it does
unfoldable pub carried : Table → ℕ
carried t = sum_to t.engines (λ r. one_if (carries t r))

-- what an engine runs at unit u of block b is what its row of that block has there
pub walk_at : (t : Table) (e : Engine) (b u : ℕ) → u < t.ticks → walk t e (b * t.ticks + u) ≡ held_in t.runs (row_at (link t) b e) u
unfolding walk
walk_at t e b u h = rw (digits_div b {m = t.ticks} {r = u} h, digits_mod b {m = t.ticks} {r = u} h)

-- a load at a tick k that is after j, and at tick 0
load_after : (s : Schedule) (e : Engine) (k j : ℕ) → k ≡ suc j → one_if (load s e k) ≡ fresh (s e k) (s e j)
unfolding load
load_after s e k j p = rw p

load-zero : (s : Schedule) (e : Engine) (k : ℕ) → k ≡ 0 → one_if (load s e k) ≡ one_if (busy (s e k))
unfolding load
load-zero s e k p = rw p

-- the loads of engine e at unit u of block b
abbrev load_at : Table → ℕ → ℕ → ℕ → ℕ
load_at t e b u = one_if (load (walk t) (engine e) (b * t.ticks + u))

-- at a unit after the first they are those of its row
load_inside : (t : Table) (e b u : ℕ) → suc u < t.ticks →
    load_at t e b (suc u) ≡ fresh (held_in t.runs (row_at (link t) b (engine e)) (suc u)) (held_in t.runs (row_at (link t) b (engine e)) u)
load_inside t e b u h =
    load_after (walk t) (engine e) (b * t.ticks + suc u) (b * t.ticks + u) (add-suc (b * t.ticks) u)
    ∙ rw (walk_at t (engine e) b (suc u) h, walk_at t (engine e) b u (omega arith))

-- at unit 0 of the first block
load-opening : (t : Table) (e : ℕ) → 1 ≤ t.ticks → load_at t e 0 0 ≡ opening t (row_at (link t) 0 (engine e)).0
unfolding opening
load-opening t e h =
    load-zero (walk t) (engine e) (0 * t.ticks + 0) (omega (arith, zero-mul t.ticks))
    ∙ ap (λ g. one_if (busy g)) (walk_at t (engine e) 0 0 h)

-- at unit 0 of a later block they turn on the row before
load-boundary : (t : Table) (e b : ℕ) → 1 ≤ t.ticks → load_at t e (suc b) 0 ≡ boundary t (row_at (link t) b (engine e)).0
unfolding boundary
load-boundary t e b h =
    load_after (walk t) (engine e) (suc b * t.ticks + 0) (b * t.ticks + (t.ticks - 1)) (omega (arith, suc-mul b t.ticks))
    ∙ rw (walk_at t (engine e) (suc b) 0 h, walk_at t (engine e) b (t.ticks - 1) (omega arith), row_next (link t) b (engine e))

-- the loads of engine e in block b: those at unit 0, and those of its row
engine-loads : (t : Table) (e b : ℕ) → 1 ≤ t.ticks → sum_to t.ticks (load_at t e b)
    ≡ load_at t e b 0 + inside t (row_at (link t) b (engine e)).0
unfolding inside
engine-loads t e b h =
    let z : t.ticks ≡ suc (t.ticks - 1) = omega arith in
    ap (λ n. sum_to n (load_at t e b)) z
    ∙ sum_first (t.ticks - 1) (load_at t e b)
    ∙ ap (λ n. load_at t e b 0 + n) (sum_ext (t.ticks - 1) (λ u. load_at t e b (suc u)) _ (λ u l. load_inside t e b u (omega arith)))

-- ---- what is carried over a boundary

-- where one duty holds both there is no load, and where none does each busy unit is one
fresh-same : (now before : Held) → fresh now before + one_if (same now before) ≡ one_if (busy now)
unfolding same
fresh-same None before = refl
fresh-same (Some i) before = by_cases (same (Some i) before) (λ p. rw p) (λ p. rw p)

-- at the boundary after row r: a load, or carried, or nothing to run
boundary-carries : (t : Table) (r : ℕ) → boundary t r + one_if (carries t r) ≡ opening t (next_of (link t) r)
unfolding boundary carries opening
boundary-carries t r =
    let now : Held = held_in t.runs (row (next_of (link t) r)) 0 in
    let before : Held = held_in t.runs (row r) (t.ticks - 1) in
    ap (λ b. fresh now before + one_if b) (same_sym before now) ∙ fresh-same now before

module _ (t : Table) (ok : Closed t) where
  -- the loads of block b
  block_loads : ℕ → ℕ
  block_loads b = sum_to t.ticks (λ u. sum_to t.engines (λ e. load_at t e b u))

  -- .. engine by engine: where the loads at unit 0 are those that f tells of the engines' rows in block a, they are f's of all rows, and
  -- those inside all rows
  block_loads_lem :
      (b a : ℕ) (f : ℕ → ℕ) → ((e : ℕ) → load_at t e b 0 ≡ f (row_at (link t) a (engine e)).0)
      → block_loads b ≡ sum_to t.engines f + sum_to t.engines (inside t)
  unfolding block_loads
  block_loads_lem b a f opens =
      sum_swap t.ticks t.engines (λ u e. load_at t e b u)
      ∙ sum_ext t.engines (λ e. sum_to t.ticks (load_at t e b)) _ (λ e h. engine-loads t e b ok.some_tick)
      ∙ sum_plus t.engines (λ e. load_at t e b 0) (λ e. inside t (row_at (link t) b (engine e)).0)
      ∙ ap (λ n. n + sum_to t.engines (λ e. inside t (row_at (link t) b (engine e)).0))
      (sum_ext t.engines (λ e. load_at t e b 0) _ (λ e h. opens e) ∙ row_sum (link t) t.engines (rows_end t ok) a f)
      ∙ ap (λ n. sum_to t.engines f + n) (row_sum (link t) t.engines (rows_end t ok) b (inside t))

  -- the first block
  block_first : block_loads 0 ≡ sum_to t.engines (opening t) + sum_to t.engines (inside t)
  block_first = block_loads_lem 0 0 (opening t) (λ e. load-opening t e ok.some_tick)

  -- every later block
  block_later : (b : ℕ) → block_loads (suc b) ≡ later t
  unfolding later
  block_later b = block_loads_lem (suc b) b (boundary t) (λ e. load-boundary t e b ok.some_tick)

  -- the count by blocks
  loads_blocks : (n : ℕ) → loads t n ≡ sum_to n block_loads
  unfolding loads loads_in block_loads
  loads_blocks n = sum_blocks n t.ticks (λ k. sum_to t.engines (λ e. one_if (load (walk t) (engine e) k)))

  -- no loads in no blocks
  pub loads_none : loads t 0 ≡ 0
  loads_none = loads_blocks 0 ∙ sum_none block_loads

  -- the loads of block 0: at unit 0 of all rows, and inside them
  pub loads_first : loads t 1 ≡ sum_to t.engines (opening t) + sum_to t.engines (inside t)
  loads_first = loads_blocks 1 ∙ sum_one block_loads ∙ block_first

  -- every later block adds the same
  pub loads_more : (n : ℕ) → loads t (suc (suc n)) ≡ loads t (suc n) + later t
  loads_more n = omega (arith, loads_blocks (suc (suc n)), loads_blocks (suc n), sum_suc (suc n) block_loads, block_later n)

  -- the count in closed form
  pub loads_closed : (n : ℕ) → loads t (n + 1) ≡ loads t 1 + n * later t
  loads_closed n = rw (add-one n) (go n)
    where
      go : (n : ℕ) → loads t (suc n) ≡ loads t 1 + n * later t
      go zero = omega (arith, zero-mul (later t))
      go (suc n) = omega (arith, loads_more n, go n, suc-mul n (later t))

  -- a later block's loads are those that the second block adds
  pub later_is : loads t 2 ≡ loads t 1 + later t
  later_is = loads_more 0

  -- a later block has the loads of the first, but for the rows whose duty is carried over the boundary
  pub later_carried : later t + carried t ≡ loads t 1
  unfolding later carried
  later_carried =
      omega (
        arith,
        loads_first,
        sum_plus t.engines (boundary t) (λ r. one_if (carries t r)),
        sum_ext t.engines (λ r. boundary t r + one_if (carries t r)) (λ r. opening t (next_of (link t) r)) (λ r h. boundary-carries t r),
        next_sum (link t) t.engines (rows_end t ok) (opening t),
      )

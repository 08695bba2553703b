-- The links of a table, and where its chains end.
-- No run of a table in range is on a row past the last, so that row is idle and nothing is chained to the last row.
-- Assumes nothing.
use Prim.Native.Nat.{ℕ, ◌+◌, ◌-◌, ◌≤◌}
use mathlib.Core.Path.{◌≡◌, refl, ap, ◌∙◌}
use mathlib.Core.Bool.{false}
use native.Mathlib.Omega.{arith}
use Rattle.paper.specs.Duties.{same}
use Rattle.paper.specs.Words.{row, Table, held_in}
use Rattle.paper.specs.Rotation.{link, first_of}
use Rattle.paper.specs.Limits.{Width}
use Rattle.paper.specs.Statements.{Ranged}
use Rattle.paper.proofs.Rotation.{begins}
use Rattle.paper.proofs.Holding.{held_none, same_idle}

-- the test of a link
pub link_is : (t : Table) (r : ℕ) → link t r ≡ same (held_in t.runs (row r) (t.ticks - 1)) (held_in t.runs (row (r + 1)) 0)
unfolding link
link_is t r = refl

-- a table with at least one tick and one engine, whose last row is not linked
pub record Closed (t : Table) : Type 0 where
  pub some_tick : 1 ≤ t.ticks
  pub some_engine : 1 ≤ t.engines
  pub no_link : link t (t.engines - 1) ≡ false

-- a table in range has no link after its last row
pub closed : (w : Width) (t : Table) → Ranged w t → Closed t
closed w t g = record {
  some_tick = g.ticks_least;
  some_engine = g.engines_least;
  no_link =
      link_is t (t.engines - 1)
      ∙ ap (same (held_in t.runs (row (t.engines - 1)) (t.ticks - 1)))
      (held_none t.runs (row (t.engines - 1 + 1)) 0 (λ k l e. omega (arith, (g.run_ranged_lem k l).row_below, g.engines_least)))
      ∙ same_idle (held_in t.runs (row (t.engines - 1)) (t.ticks - 1));
}

-- so the rows end where the engines do
pub rows_end : (t : Table) → Closed t → first_of (link t) t.engines ≡ t.engines
rows_end t ok = begins (link t) t.engines ok.some_engine ok.no_link

-- The links, by the edges alone, are those of the table. Rows at and past the engines have no run, so they are idle, and
-- so are the entries past the end of the edges.
-- Assumes nothing.
use Prim.Native.Nat.{ℕ, ◌+◌, ◌-◌, ◌≤◌}
use mathlib.Core.Path.{◌≡◌, refl, sym, ap, ◌∙◌, fun_ext}
use mathlib.Core.List.{List}
use native.Mathlib.Omega.{arith}
use lib.ListN.{get_or, get_or-eq_default}
use Rattle.std.specs.Prelude.{None}
use Rattle.laws.specs.Lists.{tab}
use Rattle.laws.proofs.Cases.{lt_or_le}
use Rattle.laws.proofs.Lists.{length-tab, get_or-tab}
use Rattle.paper.specs.Duties.{same}
use Rattle.paper.specs.Limits.{small, most_engines}
use Rattle.paper.specs.Words.{row, Table, held_in}
use Rattle.paper.specs.Rotation.{first_of, link}
use Rattle.paper.specs.Statements.{Ranged}
use Rattle.paper.proofs.Holding.{held_none, same_idle}
use Rattle.paper.proofs.Links.{link_is, closed, rows_end}
use Rattle.row_edges.specs.declared.RowEdges.{RowEdges}
use Rattle.row_edges.specs.Links.{idle_edges, first_edge, last_edge, link_of}
use Rattle.row_edges.proofs.Linking.{link_past, link_at}
use Rattle.table_tally.specs.Ready.{Ready}
use Rattle.table_tally.specs.Tally.{edges_at, edges_of}

module _ (t : Table) (ranged : Ranged small t) where
  -- no run is on a row past the last that there may be
  idle_past : (r u : ℕ) → most_engines ≤ r → held_in t.runs (row r) u ≡ None
  idle_past r u h =
      held_none t.runs (row r) u (λ k l e. omega (arith, h, e, (ranged.run_ranged_lem k l).row_below, ranged.engines_most))

  -- every entry of the edges, also past their end, tells what holds the row's
  edges_tell : (r : ℕ) → get_or (edges_of t) r idle_edges ≡ edges_at t.runs t.ticks r
  edges_tell r =
      let all = edges_at t.runs t.ticks in
      lt_or_le r (most_engines + 1)
      (λ h. get_or-tab (most_engines + 1) all idle_edges r h)
      (λ h. get_or-eq_default (tab (most_engines + 1) all) idle_edges {n = r} (omega (arith, h, length-tab (most_engines + 1) all))
      ∙ rw (idle_past r 0 (omega arith), idle_past r (t.ticks - 1) (omega arith)) refl)

  pub first_tells : (r : ℕ) → first_edge (edges_of t) r ≡ held_in t.runs (row r) 0
  first_tells r = ap (λ (z : RowEdges). z.first) (edges_tell r)

  pub last_tells : (r : ℕ) → last_edge (edges_of t) r ≡ held_in t.runs (row r) (t.ticks - 1)
  last_tells r = ap (λ (z : RowEdges). z.last) (edges_tell r)

  -- the links by the edges are the table's
  pub edges_link : link_of (edges_of t) ≡ link t
  edges_link =
      fun_ext
      (λ r. let ending = held_in t.runs (row r) (t.ticks - 1) in
      lt_or_le r most_engines
      (λ h. sym (link_at _ h) ∙ rw (last_tells r, first_tells (r + 1)) (sym (link_is t r)))
      (λ h. link_past _ h ∙ sym (link_is t r ∙ ap (same ending) (idle_past (r + 1) 0 (omega arith)) ∙ same_idle ending)))

-- of a judged table: its links, and that its last row's chain ends with it
module _ {t : Table} {edges : List RowEdges} (R : Ready t edges) where
  pub ready_links : link_of edges ≡ link t
  ready_links = rw R.edges_are (edges_link t R.ranged)

  pub ready_ends : first_of (link_of edges) t.engines ≡ t.engines
  ready_ends = rw ready_links (rows_end t (closed small t R.ranged))

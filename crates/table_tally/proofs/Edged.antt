-- The edges as a loop over the runs makes them, from the last run to the first: each row's tell what the runs passed so far hold. One run
-- more changes those of its own row, and these only where the run has the unit, for the first run that has it holds it.
-- Assumes nothing.
use Prim.Native.Nat.{ℕ, ◌+◌, ◌-◌, ◌≤◌, ◌<◌}
use mathlib.Core.Path.{◌≡◌, refl, sym, ap, ◌∙◌}
use mathlib.Core.Bool.{false}
use mathlib.Core.List.{List}
use native.Mathlib.Omega.{arith}
use lib.ListN.{length, set, drop, replicate}
use Rattle.std.specs.Prelude.{Some}
use Rattle.std.proofs.lemmas.List.{get_or-replicate, length-replicate}
use Rattle.laws.specs.Choice.{pick}
use Rattle.laws.specs.Lists.{tab}
use Rattle.laws.proofs.Cases.{by_cases, refuted}
use Rattle.laws.proofs.Lists.{get_or-tab, tab_of, set_of}
use Rattle.paper.specs.declared.Run.{Run}
use Rattle.paper.specs.Duties.{Held}
use Rattle.paper.specs.Limits.{most_engines}
use Rattle.paper.specs.Words.{row, covers, run_at, held_in}
use Rattle.paper.proofs.Holding.{covers-row, held_from_yes, held_from_no, held_from_end}
use Rattle.row_edges.specs.declared.RowEdges.{RowEdges}
use Rattle.row_edges.specs.Links.{idle_edges, first_edge, last_edge}
use Rattle.table_tally.specs.Tally.{edges_at}

-- what the runs from k on hold at the edges
abbrev pub edges_from : List Run → ℕ → ℕ → List RowEdges
edges_from xs t k = tab (most_engines + 1) (edges_at (drop k xs) t)

-- past the last run nothing is held
pub edges_none : (xs : List Run) (t k : ℕ) → length xs ≤ k → replicate (most_engines + 1) idle_edges ≡ edges_from xs t k
edges_none xs t k h =
    tab_of idle_edges (most_engines + 1) (edges_at (drop k xs) t) (replicate (most_engines + 1) idle_edges) (length-replicate _ idle_edges)
    (λ r l. get_or-replicate (most_engines + 1) r idle_edges idle_edges l
    ∙ rw (held_from_end xs (row r) 0 k h, held_from_end xs (row r) (t - 1) k h) refl)

module _ (xs : List Run) (t k : ℕ) (x : Run) (h : k < length xs) (e : x ≡ run_at xs k) where
  -- one run more, at the front: of its own row it holds the units that it has, ..
  own : (u : ℕ) → pick (covers x x.row u) (Some x.duty) (held_in (drop (k + 1) xs) x.row u) ≡ held_in (drop k xs) x.row u
  own u =
      let same = ap (λ (y : Run). covers y x.row u) (sym e) in
      by_cases (covers x x.row u)
      (λ p. rw p (ap (λ (y : Run). Some y.duty) e ∙ sym (held_from_yes xs x.row u k h (same ∙ p))))
      (λ p. rw p (sym (held_from_no xs x.row u k h (same ∙ p))))

  -- .. and of another row none
  other : (i u : ℕ) → (i ≡ x.row.0 → ⊥) → held_in (drop (k + 1) xs) (row i) u ≡ held_in (drop k xs) (row i) u
  other i u d =
      let apart : covers x (row i) u ≡ false = refuted (covers x (row i) u) (λ q. d (sym (covers-row x (row i) u q))) in
      sym (held_from_no xs (row i) u k h (rw e at apart))

  -- both edges of its row
  pub edges_more : (v w : Held) → x.row.0 ≤ most_engines
      → v ≡ pick (covers x x.row 0) (Some x.duty) (first_edge (edges_from xs t (k + 1)) x.row.0)
      → w ≡ pick (covers x x.row (t - 1)) (Some x.duty) (last_edge (edges_from xs t (k + 1)) x.row.0)
      → set (edges_from xs t (k + 1)) x.row.0 (record { first = v; last = w }) ≡ edges_from xs t k
  edges_more v w few p q =
      let before = get_or-tab (most_engines + 1) (edges_at (drop (k + 1) xs) t) idle_edges x.row.0 (omega arith) in
      let first = ap (λ (z : RowEdges). pick (covers x x.row 0) (Some x.duty) z.first) before ∙ own 0 in
      let last = ap (λ (z : RowEdges). pick (covers x x.row (t - 1)) (Some x.duty) z.last) before ∙ own (t - 1) in
      set_of idle_edges (most_engines + 1) x.row.0 (record { first = v; last = w }) (edges_at (drop (k + 1) xs) t) (edges_at (drop k xs) t)
      (omega arith)
      (rw (p ∙ first, q ∙ last) refl)
      (λ i d. rw (other i 0 d, other i (t - 1) d) refl)

-- the same for a loop that comes from k and has read run k - 1
pub edges_back : (xs : List Run) (t : ℕ) {k : ℕ} {v w : Held} {l : List RowEdges} (x : Run) → 0 < k → k ≤ length xs → x ≡ run_at xs (k - 1)
    → x.row.0 ≤ most_engines → l ≡ edges_from xs t k
    → v ≡ pick (covers x x.row 0) (Some x.duty) (first_edge l x.row.0)
    → w ≡ pick (covers x x.row (t - 1)) (Some x.duty) (last_edge l x.row.0)
    → set l x.row.0 (record { first = v; last = w }) ≡ edges_from xs t (k - 1)
edges_back xs t {k} {v} {w} {l} x h m e few p q r =
    let z : k - 1 + 1 ≡ k = omega arith in
    rw p (rw z at (edges_more xs t (k - 1) x (omega arith) e v w few (rw z (rw p at q)) (rw z (rw p at r))))

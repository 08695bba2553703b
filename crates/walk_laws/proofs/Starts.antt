-- The loads of a table by its runs: one for each run in the first block.
-- No two runs of a row share a unit, and none starts where one of the same row and duty stops. So in a row a duty begins at a unit, after
-- the first, exactly where a run starts there: a run that goes on holds the unit before too, and the run before one that starts is
-- another duty's. At unit 0 a row is busy exactly where a run starts there. Each run starts at one unit of one row, so there are as many
-- loads in the first block as runs; a later block lacks those that are carried over the boundary.
-- Assumes nothing.
use Prim.Native.Nat.{ℕ, zero, suc, ◌+◌, ◌-◌, ◌*◌, ◌≤◌, ◌<◌}
use mathlib.Core.Path.{◌≡◌, refl, sym, ap, ◌∙◌}
use mathlib.Core.Bool.{Bool, true, false, ◌&&◌}
use mathlib.Core.List.{List}
use native.Mathlib.Omega.{arith}
use lib.Dec.{eqb}
use lib.ListN.{length}
use borrow.Author.Tests.{eqb-true, eqb-false, eq-eqb, ne_eqb}
use Rattle.laws.specs.Choice.{pick, one_if}
use Rattle.laws.specs.Sum.{sum_to}
use Rattle.laws.proofs.Cases.{by_cases, lt_or_le, refuted, and_left, and_right}
use Rattle.laws.proofs.Sum.{sum_ext, sum_first, sum_plus, sum_const, sum_swap, sum_zero, sum_only, count_cell}
use Rattle.paper.specs.declared.Run.{Run}
use Rattle.std.specs.Prelude.{Some}
use Rattle.paper.specs.Duties.{same, busy}
use Rattle.paper.specs.Words.{row, stop, Table, run_at, held_in}
use Rattle.paper.specs.Walk.{loads}
use Rattle.paper.specs.Limits.{Width}
use Rattle.paper.specs.Statements.{Ranged, Meets, Has}
use Rattle.table_laws.proofs.Rules.{NotJoined}
use Rattle.paper.proofs.Holding.{Covering, covering_other, RowsApart, has_covers, covers_has, covers-row, held_cases, held_by, covering_one}
use Rattle.walk_laws.proofs.Units.{RowsBelow, Inside}
use Rattle.paper.proofs.Links.{Closed, closed}
use Rattle.paper.proofs.Loads.{fresh, opening, inside, later, carried, loads_none, loads_first, loads_closed, later_carried}

-- what the count needs of the runs: each has units, inside the block and on a row of the table; 14; 15
pub record Laid (m t : ℕ) (xs : List Run) : Type 0 where
  pub row_below : RowsBelow m xs
  pub some_units : (k : ℕ) → k < length xs → 1 ≤ (run_at xs k).length
  pub inside_block : Inside t xs
  pub apart : RowsApart xs
  pub not_joined : NotJoined xs

-- a table in range that meets the rules has its runs laid so
pub laid : (w : Width) (t : Table) → Ranged w t → Meets t → Laid t.engines t.ticks t.runs
laid w t g o = record {
  row_below = λ k h. (g.run_ranged_lem k h).row_below;
  some_units = λ k h. (g.run_ranged_lem k h).some_units;
  inside_block = λ k h. (g.run_ranged_lem k h).inside;
  apart = o.apart_in_row;
  not_joined = o.not_joined;
}

-- run x starts at unit u of row r
abbrev starts_at : Run → ℕ → ℕ → Bool
starts_at x r u = eqb x.row.0 r && eqb x.first u

-- how many runs do
unfoldable pub starts : List Run → ℕ → ℕ → ℕ
starts xs r u = sum_to (length xs) (λ k. one_if (starts_at (run_at xs k) r u))

module _ (m t : ℕ) (xs : List Run) (ok : Laid m t xs) where
  -- a run covers the unit where it starts
  starts_covers : (r u k : ℕ) → k < length xs → starts_at (run_at xs k) r u ≡ true → Covering xs (row r) u k
  starts_covers r u k h p =
      let of_row = eqb (run_at xs k).row.0 r in
      let z : (run_at xs k).first ≡ u = eqb-true (run_at xs k).first u (and_right of_row (eqb (run_at xs k).first u) p) in
      record {
        below = h;
        covering = has_covers (run_at xs k) (row r) u (eqb-true (run_at xs k).row.0 r (and_left of_row (eqb (run_at xs k).first u) p))
            (omega (arith, ok.some_units k h));
      }

  -- at a unit that no run covers none starts
  starts_none : (r u : ℕ) → ((k : ℕ) → Covering xs (row r) u k → ⊥) → starts xs r u ≡ 0
  unfolding starts
  starts_none r u n =
      sum_zero (length xs) (λ k. one_if (starts_at (run_at xs k) r u))
      (λ k h. rw (refuted (starts_at (run_at xs k) r u) (λ p. n k (starts_covers r u k h p))))

  -- at a unit that run k covers none or run k starts
  starts_one : (r u k : ℕ) → Covering xs (row r) u k → starts xs r u ≡ one_if (eqb (run_at xs k).first u)
  unfolding starts
  starts_one r u k c =
      sum_only (length xs) k (λ j. one_if (starts_at (run_at xs j) r u)) c.below
      (λ j h d. rw (refuted (starts_at (run_at xs j) r u) (λ p. d (covering_one xs (row r) u ok.apart j k (starts_covers r u j h p) c))))
      ∙ rw (eq-eqb (run_at xs k).row.0 r (covers-row (run_at xs k) (row r) u c.covering))

  -- unit 0 is busy exactly where a run starts there
  opening_starts : (r : ℕ) → one_if (busy (held_in xs (row r) 0)) ≡ starts xs r 0
  opening_starts r =
      held_cases xs (row r) 0
      (λ e n. ap (λ h. one_if (busy h)) e ∙ sym (starts_none r 0 n))
      (λ k c e. ap (λ h. one_if (busy h)) e
      ∙ sym (starts_one r 0 k c ∙ ap one_if
      (eq-eqb (run_at xs k).first 0 (omega (arith, covers_has (run_at xs k) (row r) 0 c.covering)))))

  -- where a run starts, the unit before is not its duty's
  start_differs : (r u k : ℕ) → Covering xs (row r) (suc u) k → (run_at xs k).first ≡ suc u
      → same (Some (run_at xs k).duty) (held_in xs (row r) u) ≡ false
  unfolding same
  start_differs r u k c p =
      held_cases xs (row r) u
      (λ e n. ap (same (Some (run_at xs k).duty)) e)
      (λ j d e. ap (same (Some (run_at xs k).duty)) e ∙ ne_eqb (run_at xs k).duty (run_at xs j).duty (λ q. joined j d (sym q)))
    where
      stops : (j : ℕ) → Covering xs (row r) u j → stop (run_at xs j) ≤ suc u
      stops j d =
          let has : Has (run_at xs j) u = covers_has (run_at xs j) (row r) u d.covering in
          lt_or_le (suc u) (stop (run_at xs j))
          (λ l. let f = covering_other (suc u) d (omega arith) in
          absurd (omega (arith, ap (λ i. (run_at xs i).first) (covering_one xs (row r) (suc u) ok.apart j k f c)))) (λ l. l)

      joined : (j : ℕ) → Covering xs (row r) u j → (run_at xs j).duty ≡ (run_at xs k).duty → ⊥
      joined j d q =
          ok.not_joined j k d.below c.below
          (covers-row (run_at xs j) (row r) u d.covering ∙ sym (covers-row (run_at xs k) (row r) (suc u) c.covering)) q
          (omega (arith, stops j d, covers_has (run_at xs j) (row r) u d.covering))

  -- where a run goes on, the unit before is its duty's
  on_same : (r u k : ℕ) → Covering xs (row r) (suc u) k → ((run_at xs k).first ≡ suc u → ⊥)
      → same (Some (run_at xs k).duty) (held_in xs (row r) u) ≡ true
  unfolding same
  on_same r u k c n =
      let has : Has (run_at xs k) (suc u) = covers_has (run_at xs k) (row r) (suc u) c.covering in
      let low : (run_at xs k).first ≤ u = lt_or_le u (run_at xs k).first (λ l. absurd (n (omega arith))) (λ l. l) in
      ap (same (Some (run_at xs k).duty)) (held_by xs (row r) u ok.apart k (covering_other u c (omega arith)))
      ∙ eq-eqb (run_at xs k).duty (run_at xs k).duty refl

  -- a unit after the first is a load exactly where a run starts there
  fresh_starts : (r u : ℕ) → fresh (held_in xs (row r) (suc u)) (held_in xs (row r) u) ≡ starts xs r (suc u)
  fresh_starts r u =
      held_cases xs (row r) (suc u)
      (λ e n. ap (λ h. fresh h (held_in xs (row r) u)) e ∙ sym (starts_none r (suc u) n))
      (λ k c e. ap (λ h. fresh h (held_in xs (row r) u)) e
      ∙ by_cases (eqb (run_at xs k).first (suc u))
      (λ p. rw (p, start_differs r u k c (eqb-true (run_at xs k).first (suc u) p)))
      (λ p. rw (p, on_same r u k c (eqb-false (run_at xs k).first (suc u) p)))
      ∙ sym (starts_one r (suc u) k c))

  -- each run starts at one unit of one row
  all_starts : sum_to m (λ r. sum_to t (starts xs r)) ≡ length xs
  unfolding starts
  all_starts =
      sum_ext m (λ r. sum_to t (starts xs r)) (λ r. sum_to (length xs) (λ k. sum_to t (λ u. one_if (starts_at (run_at xs k) r u))))
      (λ r h. sum_swap t (length xs) (λ u k. one_if (starts_at (run_at xs k) r u)))
      ∙ sum_swap m (length xs) (λ r k. sum_to t (λ u. one_if (starts_at (run_at xs k) r u)))
      ∙ sum_ext (length xs) _ (λ k. 1)
      (λ k h. count_cell m t (run_at xs k).row.0 (run_at xs k).first (ok.row_below k h)
      (omega (arith, ok.some_units k h, ok.inside_block k h)))
      ∙ sum_const (length xs) 1 ∙ omega arith

module _ (t : Table) (ends : Closed t) (ok : Laid t.engines t.ticks t.runs) where
  -- the loads of a row in the first block are the runs that start on it
  row_starts : (r : ℕ) → opening t r + inside t r ≡ sum_to t.ticks (starts t.runs r)
  unfolding opening inside
  row_starts r =
      let z : t.ticks ≡ suc (t.ticks - 1) = omega (arith, ends.some_tick) in
      omega (
        arith,
        opening_starts t.engines t.ticks t.runs ok r,
        sum_ext (t.ticks - 1) (λ u. fresh (held_in t.runs (row r) (suc u)) (held_in t.runs (row r) u))
            (λ u. starts t.runs r (suc u))
            (λ u h. fresh_starts t.engines t.ticks t.runs ok r u),
        sum_first (t.ticks - 1) (starts t.runs r),
        ap (λ n. sum_to n (starts t.runs r)) z,
      )

  -- in the first block there is a load for each run
  pub loads_runs : loads t 1 ≡ length t.runs
  loads_runs =
      loads_first t ends
      ∙ sym (sum_plus t.engines (opening t) (inside t))
      ∙ sum_ext t.engines (λ r. opening t r + inside t r) (λ r. sum_to t.ticks (starts t.runs r)) (λ r h. row_starts r)
      ∙ all_starts t.engines t.ticks t.runs ok

  -- in each later block one for each run, but for those carried over the boundary
  pub later_runs : later t + carried t ≡ length t.runs
  later_runs = later_carried t ends ∙ loads_runs

  -- the count of B blocks, from the runs and what is carried
  pub loads_by_runs : (n : ℕ) → loads t (n + 1) ≡ length t.runs + n * (length t.runs - carried t)
  loads_by_runs n = loads_closed t ends n ∙ ap (λ x. x + n * later t) loads_runs
      ∙ ap (λ x. length t.runs + n * x) (omega (arith, later_runs))

  -- .. with no blocks too
  pub loads_of : (n : ℕ) → loads t n ≡ pick (eqb n 0) 0 (length t.runs + (n - 1) * (length t.runs - carried t))
  loads_of zero = loads_none t ends
  loads_of (suc n) =
      let y : suc n ≡ n + 1 = omega arith in
      let z : suc n - 1 ≡ n = omega arith in
      rw (ne_eqb (suc n) 0 (λ e. omega arith), z, y) (loads_by_runs n)

-- the count of loads of a table in range that meets the rules
pub loads_met : (w : Width) (t : Table) → Ranged w t → Meets t → (n : ℕ)
    → loads t n ≡ pick (eqb n 0) 0 (length t.runs + (n - 1) * (length t.runs - carried t))
loads_met w t g o n = loads_of t (closed w t g) (laid w t g o) n

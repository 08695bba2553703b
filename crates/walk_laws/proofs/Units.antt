-- How often a duty stands on a unit of a block. Where the runs of a row are apart, the rows that a duty holds on a unit are as many as its
-- runs that have the unit: each run adds its own row and takes none away. Over the units of a block that adds up to the runs' lengths. And
-- where the runs of a duty are apart, it is one row at most.
-- Assumes nothing.
use Prim.Native.Nat.{ℕ, zero, suc, ◌+◌, ◌≤◌, ◌<◌}
use mathlib.Core.Path.{◌≡◌, refl, sym, ap, ◌∙◌}
use mathlib.Core.Bool.{Bool, true, false, ◌&&◌, and-true, and-false}
use mathlib.Core.List.{List, [], ◌∷◌}
use native.Mathlib.Omega.{arith}
use lib.Dec.{eqb}
use lib.ListN.{length}
use borrow.Author.Tests.{eq-eqb, ne_eqb}
use Rattle.laws.specs.Choice.{pick, one_if}
use Rattle.laws.specs.Sum.{sum_to}
use Rattle.laws.proofs.Cases.{by_cases, by_order, refuted}
use Rattle.laws.proofs.Decides.{spans}
use Rattle.laws.proofs.Sum.{sum_ext, sum_plus, sum_zero, sum_only, count_stretch}
use Rattle.paper.specs.declared.Row.{Row}
use Rattle.paper.specs.declared.Run.{Run}
use Rattle.std.specs.Prelude.{None, Some}
use Rattle.paper.specs.Duties.{same}
use Rattle.paper.specs.Words.{row, stop, covers, run_at, held_in}
use Rattle.paper.specs.Rules.{units_of}
use Rattle.paper.specs.Statements.{Apart}
use Rattle.paper.proofs.Holding.{RowsApart, Covering, covers-row, covers_has, held_yes, held_no, held_idle, held_some}

-- run x is duty i's and has the unit u
abbrev pub serves : Run → ℕ → ℕ → Bool
serves x i u = eqb x.duty i && spans x.first x.length u

-- how many runs of duty i have the unit u
unfoldable pub on_unit : List Run → ℕ → ℕ → ℕ
on_unit [] i u = zero
on_unit (x ∷ xs) i u = one_if (serves x i u) + on_unit xs i u

-- no two runs of one duty share a unit
abbrev pub DutiesApart : List Run → Type 0
DutiesApart xs = (j k : ℕ) → j < k → k < length xs → (run_at xs j).duty ≡ (run_at xs k).duty → Apart (run_at xs j) (run_at xs k)

-- every run's row is one of m
abbrev pub RowsBelow : ℕ → List Run → Type 0
RowsBelow m xs = (k : ℕ) → k < length xs → (run_at xs k).row.0 < m

-- every run ends by t
abbrev pub Inside : ℕ → List Run → Type 0
Inside t xs = (k : ℕ) → k < length xs → stop (run_at xs k) ≤ t

-- idle is no duty; a duty is itself alone
idle_same : (i : ℕ) → same None (Some i) ≡ false
unfolding same
idle_same i = refl

pub same_by : (i j : ℕ) → same (Some i) (Some j) ≡ eqb i j
unfolding same
same_by i j = refl

-- ---- one run

-- 1 where run x is duty i's and covers unit u of row r
abbrev counts : Run → ℕ → ℕ → ℕ → ℕ
counts x i r u = one_if (eqb x.duty i && covers x (row r) u)

-- over all rows: the run's own row alone
counts_rows : (m : ℕ) (x : Run) (i u : ℕ) → x.row.0 < m → sum_to m (λ r. counts x i r u) ≡ one_if (serves x i u)
unfolding covers
counts_rows m x i u h =
    sum_only m x.row.0 (λ r. counts x i r u) h (λ r l n. rw (ne_eqb x.row.0 r (λ e. n (sym e)), and-false (eqb x.duty i)))
    ∙ rw (eq-eqb x.row.0 x.row.0 refl)

-- over all units: the run's length where it is the duty's
counts_units : (t : ℕ) (x : Run) (i : ℕ) → stop x ≤ t → sum_to t (λ u. one_if (serves x i u)) ≡ pick (eqb x.duty i) x.length 0
counts_units t x i h =
    by_cases (eqb x.duty i) (λ e. rw e (count_stretch t x.first x.length h))
    (λ e. rw e (sum_zero t (λ u. 0) (λ u l. refl)))

-- ---- all runs

-- one run more adds where it covers, since no later run of its row covers there too
same_more : (x : Run) (xs : List Run) → RowsApart (x ∷ xs) → (i r u : ℕ) → one_if (same (held_in (x ∷ xs) (row r) u) (Some i))
    ≡ counts x i r u + one_if (same (held_in xs (row r) u) (Some i))
same_more x xs a i r u =
    by_cases (covers x (row r) u)
    (λ h. let idle = held_idle xs (row r) u (λ k l. covers_none h k l) in
    rw (held_yes x xs (row r) u h, idle, same_by x.duty i, idle_same i, h, and-true (eqb x.duty i)) (omega arith))
    (λ h. rw (held_no x xs (row r) u h, h, and-false (eqb x.duty i)) (omega arith))
  where
    covers_none : covers x (row r) u ≡ true → (k : ℕ) → k < length xs → covers (run_at xs k) (row r) u ≡ false
    covers_none h k l =
        refuted (covers (run_at xs k) (row r) u)
        (λ q. a 0 (suc k) (omega arith) (omega arith) (covers-row x (row r) u h ∙ sym (covers-row (run_at xs k) (row r) u q)) u
        (covers_has x (row r) u h) (covers_has (run_at xs k) (row r) u q))

-- on each unit a duty holds as many rows as it has runs there
pub rows_unit : (m : ℕ) (xs : List Run) → RowsApart xs → RowsBelow m xs → (i u : ℕ)
    → sum_to m (λ r. one_if (same (held_in xs (row r) u) (Some i))) ≡ on_unit xs i u
unfolding on_unit held_in
rows_unit m [] a below i u = sum_zero m (λ r. one_if (same None (Some i))) (λ r l. rw (idle_same i))
rows_unit m (x ∷ xs) a below i u =
    sum_ext m (λ r. one_if (same (held_in (x ∷ xs) (row r) u) (Some i)))
    (λ r. counts x i r u + one_if (same (held_in xs (row r) u) (Some i)))
    (λ r l. same_more x xs a i r u)
    ∙ sum_plus m (λ r. counts x i r u) (λ r. one_if (same (held_in xs (row r) u) (Some i)))
    ∙ rw (
      counts_rows m x i u (below 0 (omega arith)),
      rows_unit m xs (λ j k l h. a (suc j) (suc k) (omega arith) (omega arith))
          (λ k h. below (suc k) (omega arith)) i u,
    )

-- over the units of a block that makes the units of its runs
pub units_block : (t : ℕ) (xs : List Run) → Inside t xs → (i : ℕ) → sum_to t (λ u. on_unit xs i u) ≡ units_of xs i
unfolding on_unit units_of
units_block t [] inside i = sum_zero t (λ u. 0) (λ u l. refl)
units_block t (x ∷ xs) inside i =
    sum_plus t (λ u. one_if (serves x i u)) (λ u. on_unit xs i u)
    ∙ rw (counts_units t x i (inside 0 (omega arith)), units_block t xs (λ k h. inside (suc k) (omega arith)) i)

-- ---- at most once

-- where a duty's runs are apart it holds a unit on one row only
pub one_row : (xs : List Run) → DutiesApart xs → (r s : Row) (u i : ℕ) → held_in xs r u ≡ Some i → held_in xs s u ≡ Some i → r.0 ≡ s.0
one_row xs a r s u i p q =
    let x = held_some xs r u i p in
    let y = held_some xs s u i q in
    go x.0 y.0 x.1 y.1 (x.2 ∙ sym y.2)
  where
    go : (j k : ℕ) → Covering xs r u j → Covering xs s u k → (run_at xs j).duty ≡ (run_at xs k).duty → r.0 ≡ s.0
    go j k c d e =
        let f = covers_has (run_at xs j) r u c.covering in
        let g = covers_has (run_at xs k) s u d.covering in
        by_order j k (λ l. absurd (a j k l d.below e u f g)) (λ l. absurd (a k j l c.below (sym e) u g f))
        (λ p. sym (covers-row (run_at xs j) r u c.covering) ∙ ap (λ (n : ℕ). (run_at xs n).row.0) p
        ∙ covers-row (run_at xs k) s u d.covering)

-- The refusals 6, 7 and 8 in their order, for any block length: 6 first; past it the numbers decide, what the slices add up to and how long
-- the table is.
-- Assumes nothing.
use Prim.Native.Nat.{ℕ, ◌*◌, ◌≤◌, ◌<◌}
use mathlib.Core.Path.{◌≡◌, refl, ◌∙◌}
use mathlib.Core.List.{List}
use native.Mathlib.Omega.{arith}
use lib.Dec.{ltb}
use lib.ListN.{length}
use Rattle.laws.specs.Lists.{sum_of}
use Rattle.laws.proofs.Cases.{by_cases}
use Rattle.paper.specs.declared.Duty.{Duty}
use Rattle.paper.specs.Sa1.{slices, sa1}
use Rattle.paper.specs.Limits.{small, table_length}
use Rattle.paper.specs.Outcome.{Outcome, refused, answer, and_then}
use Rattle.paper.specs.Bytes.{bytes_of}
use Rattle.paper.specs.Builder.{bad_slice}
use Rattle.plan_laws.proofs.PlanWhen.{slice_refused, slices_taken}
use Rattle.sa1_runs.specs.declared.Layout.{Layout}
use Rattle.sa1_runs.specs.Fitting.{fitted_by}
use Rattle.sa1_runs.specs.Laying.{units_to}
use Rattle.sa1_measure.specs.Layouts.{LaidOut}
use Rattle.sa1_table.proofs.Table.{sa1-length}
use Rattle.builder.specs.BuildAt.{build_at}

module _ (t m : ℕ) (ds : List Duty) (room : ℕ) where
  pub refusal_6 : bad_slice t ds < length ds → build_at t m ds room ≡ refused 6 (bad_slice t ds)
  refusal_6 h = rw (slice_refused t m ds (bad_slice t ds) refl h)

  -- 7 and 8 by the numbers, else SA1's table
  pub past_6 :
      (laid needed : ℕ) → length ds ≤ bad_slice t ds → laid ≡ sum_of (slices t ds) → length (bytes_of (sa1 t m ds)) ≡ needed
      → build_at t m ds room ≡ and_then (fitted_by (m * t) laid needed room) (λ k. answer (bytes_of (sa1 t m ds)))
  past_6 laid needed h e f =
      rw (slices_taken t m ds (bad_slice t ds) refl h, ← e)
      (by_cases (ltb (m * t) laid) (λ p. rw p) (λ p. by_cases (ltb room needed) (λ q. rw (p, f, q)) (λ q. rw (p, f, q))))

-- the bytes that the runs of a layout need are the table's, ..
pub size : (t m : ℕ) {ds : List Duty} {l : Layout} → LaidOut t ds l → length (bytes_of (sa1 t m ds)) ≡ table_length small (length ds) l.runs
size t m {ds} {l} laid = sa1-length t m ds ∙ omega (arith, laid.counted)

-- .. so that with what is laid they decide
pub decided :
    (t m room : ℕ) {ds : List Duty} {l : Layout} {o : Outcome ℕ} → LaidOut t ds l
    → o ≡ fitted_by (m * t) (units_to t l.end) (table_length small (length ds) l.runs) room
    → build_at t m ds room ≡ and_then o (λ (k : ℕ). answer (bytes_of (sa1 t m ds)))
decided t m room {ds} {l} laid e =
    past_6 t m ds room (units_to t l.end) (table_length small (length ds) l.runs) laid.all_whole laid.total (size t m laid) ∙ rw (← e)

-- The runs of a duty as bytes, by whether its slice stays in its row; and how long they are.
-- Assumes nothing.
use Prim.Native.Nat.{ℕ, ◌+◌, ◌*◌, ◌≤◌, ◌<◌}
use mathlib.Core.Path.{◌≡◌, ap, ◌∙◌}
use mathlib.Core.List.{List, [], ◌∷◌, ◌++◌, append-nil}
use lib.ListN.{length}
use Rattle.laws.proofs.Lists.{length-flat, flat_step, flat_end}
use Rattle.paper.specs.declared.Run.{Run}
use Rattle.paper.specs.Limits.{small, run_length}
use Rattle.paper.specs.Bytes.{run_bytes}
use Rattle.table_laws.proofs.Bytes.{length_run}
use Rattle.sa1_runs.specs.declared.Place.{Place}
use Rattle.sa1_runs.specs.Laying.{laid_at, runs_at, first_run, second_run}
use Rattle.sa1_runs.proofs.Laying.{laid_length, laid_whole, laid_split}
use Rattle.sa1_table.specs.RunBytes.{runs_bytes}

-- as many bytes for each run
pub runs_bytes_lem : (xs : List Run) → length (runs_bytes xs) ≡ run_length small * length xs
runs_bytes_lem xs = length-flat (run_bytes small) (run_length small) (length_run small) xs

-- the bytes of a duty's runs
module _ (t n i : ℕ) (p : Place) where
  pub bytes_whole : p.unit + n ≤ t → runs_bytes (laid_at t n i p) ≡ run_bytes small (first_run t n i p)
  bytes_whole h =
      let x = first_run t n i p in
      ap runs_bytes (laid_whole t n i p h) ∙ flat_step (run_bytes small) x []
      ∙ rw (flat_end (run_bytes small)) (append-nil (run_bytes small x))

  pub bytes_split :
      t < p.unit + n → runs_bytes (laid_at t n i p) ≡ run_bytes small (first_run t n i p) ++ (run_bytes small (second_run t n i p) ++ [])
  bytes_split h =
      let x = first_run t n i p in
      let y = second_run t n i p in
      ap runs_bytes (laid_split t n i p h) ∙ flat_step (run_bytes small) x (y ∷ [])
      ∙ ap (λ (l : List ℕ). run_bytes small x ++ l) (flat_step (run_bytes small) y [] ∙ rw (flat_end (run_bytes small)))

  -- how many bytes they have
  pub bytes_length : length (runs_bytes (laid_at t n i p)) ≡ run_length small * runs_at t n p.unit
  bytes_length = runs_bytes_lem (laid_at t n i p) ∙ ap (λ (k : ℕ). run_length small * k) (laid_length t n i p)

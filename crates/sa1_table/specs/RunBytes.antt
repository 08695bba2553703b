-- Duties and runs as a table has them: their records one after the other.
use Rattle.std.specs.Prelude.{ℕ, ◌+◌, ◌*◌, List, ◌++◌, length}
use Rattle.laws.specs.Lists.{flat}
use Rattle.paper.specs.declared.Duty.{Duty}
use Rattle.paper.specs.declared.Run.{Run}
use Rattle.paper.specs.Sa1.{slices}
use Rattle.paper.specs.Limits.{small, duty_length, run_length}
use Rattle.paper.specs.Bytes.{duty_bytes, run_bytes}
use Rattle.sa1_runs.specs.Laying.{laid_from, corner}

-- runs as bytes
abbrev pub runs_bytes : List Run → List ℕ
runs_bytes xs = flat (run_bytes small) xs

-- all duties, then SA1's runs of them; and how long they are
abbrev pub records_bytes : ℕ → List Duty → List ℕ
records_bytes t ds = flat duty_bytes ds ++ runs_bytes (laid_from t (slices t ds) 0 corner)

abbrev pub records_length : ℕ → List Duty → ℕ
records_length t ds = duty_length * length ds + run_length small * length (laid_from t (slices t ds) 0 corner)

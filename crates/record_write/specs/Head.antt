-- The head record by its three fields, as a writer has them before it has the table.
use Rattle.std.specs.Prelude.{ℕ, List, ◌∷◌, ◌++◌}
use Rattle.laws.specs.Digits.{digits}
use Rattle.paper.specs.Limits.{small}

-- `head_bytes small` of a table with block length t, m engines and n duties
abbrev pub head_of : ℕ → ℕ → ℕ → List ℕ
head_of t m n = small.head_kind ∷ digits 4 t ++ digits 1 m ++ digits 1 n

-- Numbers as bytes, the lowest first (little-endian), in a field of k bytes.
use Rattle.std.specs.Prelude.{ℕ, zero, suc, ◌+◌, ◌*◌, ◌/◌, ◌%◌, List, [], ◌∷◌, get_or}

-- the k bytes of v
unfoldable pub digits : ℕ → ℕ → List ℕ
digits zero v = []
digits (suc k) v = v % 256 ∷ digits k (v / 256)

-- the number in the k bytes at a place of b; bytes past the end count as 0
unfoldable pub num_at : ℕ → List ℕ → ℕ → ℕ
num_at zero b at = zero
num_at (suc k) b at = get_or b at 0 + 256 * num_at k b (at + 1)

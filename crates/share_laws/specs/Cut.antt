-- Step 2 of SA2 by a cut: the duties that are chosen are those before one place that want a unit.
use Rattle.std.specs.Prelude.{ℕ, ◌≤◌, ◌<◌, ◌≡◌, List, leb, get_or}
use Rattle.laws.specs.Search.{first}
use Rattle.paper.specs.Sa2.{Sharing, duty_count, free, wanting_to, needs_at}

-- "the first F tasks from the list" end here: the first duty before which F or more want a unit, or how many duties there are
unfoldable pub cut_of : Sharing → List ℕ → ℕ
cut_of s ws = first (λ i. leb (free s ws) (wanting_to s ws i)) (duty_count s)

-- the cut of block b
abbrev pub cut_at : Sharing → ℕ → ℕ
cut_at s b = cut_of s (needs_at s b)

-- a list holds the cuts of the blocks from `from` to before `to`, each at its block's number
abbrev pub HasCuts : Sharing → (from to : ℕ) → List ℕ → Type 0
HasCuts s from to cuts = (b : ℕ) → from ≤ b → b < to → get_or cuts b 0 ≡ cut_at s b

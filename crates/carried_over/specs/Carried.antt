-- What is carried over a boundary, by the edges of the rows: `goes_on` says of two rows whether one duty holds the last unit of the one and
-- the first unit of the other.
use Rattle.std.specs.Prelude.{ℕ, ◌+◌, ◌-◌, Bool}
use Rattle.laws.specs.Choice.{one_if}
use Rattle.laws.specs.Sum.{sum_to}
use Rattle.paper.specs.declared.Chain.{Chain}
use Rattle.paper.specs.Rotation.{next_of}
use Rattle.row_edges.specs.Links.{link_by}

-- the duty at the end of row r goes on at unit 0 of the next row of r's engine
abbrev pub carries_of : (ℕ → ℕ → Bool) → ℕ → Bool
carries_of goes_on r = goes_on r (next_of (link_by goes_on) r)

-- at how many of m rows it does
unfoldable pub carried_of : (ℕ → ℕ → Bool) → ℕ → ℕ
carried_of goes_on m = sum_to m (λ r. one_if (carries_of goes_on r))

-- the duty at the end of a chain's last row goes on at unit 0 of its first
abbrev pub closes_of : (ℕ → ℕ → Bool) → Chain → Bool
closes_of goes_on x = goes_on (x.first.0 + x.length - 1) x.first.0

-- at how many rows of a chain: at each but the last, and at the last where the chain closes
abbrev pub carried_in : (ℕ → ℕ → Bool) → Chain → ℕ
carried_in goes_on x = x.length - 1 + one_if (closes_of goes_on x)

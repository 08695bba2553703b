-- A chain by its last row, and a chain in a block.
use Rattle.std.specs.Prelude.{ℕ, ◌+◌, ◌-◌, ◌%◌, ◌≤◌, ◌≡◌, Bool, false}
use Rattle.paper.specs.declared.Row.{Row}
use Rattle.paper.specs.declared.Chain.{Chain}
use Rattle.paper.specs.Limits.{most_engines}
use Rattle.paper.specs.Words.{row}
use Rattle.paper.specs.Rotation.{first_of}
use Rattle.walk_laws.proofs.Page.{InChain}
use Rattle.rotation.specs.declared.Turned.{Turned}

-- `last` is the last row of r's chain: at or after it, in the same chain, and not linked
pub record IsLast (c : ℕ → Bool) (r last : ℕ) : Type 0 where
  pub after : r ≤ last
  pub most : last ≤ most_engines
  pub chained : first_of c last ≡ first_of c r
  pub ends : c last ≡ false

-- x is the chain of row r, turned as in block b
pub record IsTurned (c : ℕ → Bool) (b r : ℕ) (x : Turned) : Type 0 where
  pub chained : InChain c r x.chain
  pub most : x.chain.first.0 + x.chain.length ≤ most_engines + 1
  pub places : x.places ≡ b % x.chain.length

-- the row so many places further round the chain than row r
abbrev pub round : Chain → ℕ → ℕ → Row
round x r places = row (x.first.0 + (r - x.first.0 + places) % x.length)

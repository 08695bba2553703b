-- How far a pass over the blocks has come.
use Rattle.std.specs.Prelude.{ℕ, ◌+◌, ◌≤◌, ◌<◌, ◌≡◌, true, false, Result, Ok, Err, ⊤, List, get_or}
use Rattle.laws.specs.Lists.{over, tab, flat}
use Rattle.paper.specs.declared.Refusal.{Refusal}
use Rattle.paper.specs.declared.Refusal.TheVariants.{ShareBlock}
use Rattle.paper.specs.Sa2.{Sharing, allotments}
use Rattle.share_laws.specs.Cut.{HasCuts}
use Rattle.share_block.specs.Paced.{Pace, pace, short_at}

-- the cuts of these blocks are kept in the list that was `before`, and what it had for the blocks before them
pub record CutsKept (s : Sharing) (from block : ℕ) (before after : List ℕ) : Type 0 where
  pub has : HasCuts s from block after
  pub earlier : (b : ℕ) → b < from → get_or after b 0 ≡ get_or before b 0

-- from the next block of p to before block `to` none comes short: then `to` is next, the list of units has what the last one gave, and the
-- cuts are kept
pub record Passed (p : Pace) (to : ℕ) (units cuts : List ℕ) (q : Pace) (units' cuts' : List ℕ) : Type 0 where
  pub clear : (b : ℕ) → p.block ≤ b → b < to → short_at p.sharing b ≡ false
  pub paced : q ≡ pace p.sharing to
  pub last : (b : ℕ) → b + 1 ≡ to → p.block ≤ b → units' ≡ over (allotments p.sharing b) units
  pub kept : CutsKept p.sharing p.block to cuts cuts'

-- one of them does, and it is the first; the block after it is next, and the cuts of those before it are kept
pub record Stopped (p : Pace) (to : ℕ) (cuts : List ℕ) (why : Refusal) (q : Pace) (cuts' : List ℕ) : Type 0 where
  pub block : ℕ
  pub least : p.block ≤ block
  pub told : why ≡ ShareBlock block
  pub most : block < to
  pub clear : (b : ℕ) → p.block ≤ b → b < block → short_at p.sharing b ≡ false
  pub stopped : short_at p.sharing block ≡ true
  pub paced : q ≡ pace p.sharing (block + 1)
  pub kept : CutsKept p.sharing p.block block cuts cuts'

abbrev pub Passes : Pace → ℕ → (units cuts : List ℕ) → Result ⊤ Refusal → Pace → (units' cuts' : List ℕ) → Type 0
Passes p to units cuts (Ok u) q units' cuts' = Passed p to units cuts q units' cuts'
Passes p to units cuts (Err why) q units' cuts' = Stopped p to cuts why q cuts'

-- what the first n blocks allot, block by block
abbrev pub allotted : Sharing → ℕ → List ℕ
allotted s n = flat (allotments s) (tab n (λ b. b))

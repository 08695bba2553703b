-- A chain in a block: the engine of each of its rows has, that block, the row so many places further round (the closed form of the
-- rotation).
-- Assumes nothing.
use Prim.Native.Nat.{ℕ, ◌+◌, ◌≤◌, ◌<◌}
use mathlib.Core.Path.{◌≡◌, sym, ap, ◌∙◌}
use mathlib.Core.Bool.{Bool}
use Rattle.paper.specs.Duties.{engine}
use Rattle.paper.specs.Rotation.{row_at}
use Rattle.walk_laws.proofs.Page.{row_reduced, chain_other}
use Rattle.rotation.specs.declared.Turned.{Turned}
use Rattle.rotation.specs.Turning.{IsTurned, round}

module _ {c : ℕ → Bool} {b r : ℕ} {x : Turned} (t : IsTurned c b r x) where
  pub row_turned : round x.chain r x.places ≡ row_at c b (engine r)
  row_turned = ap (round x.chain r) t.places ∙ sym (row_reduced c b t.chained)

  -- it is the chain of each of its rows
  pub turned_other : (s : ℕ) → x.chain.first.0 ≤ s → s < x.chain.first.0 + x.chain.length → IsTurned c b s x
  turned_other s l h = record { chained = chain_other c s t.chained l h; most = t.most; places = t.places }

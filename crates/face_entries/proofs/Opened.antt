-- A first entry, stored, with others written after it stands over the front of the list with them.
-- Assumes nothing.
use Prim.Native.Nat.{ℕ, ◌≤◌}
use mathlib.Core.Path.{◌≡◌, refl, sym, ◌∙◌}
use mathlib.Core.List.{List, [], ◌∷◌}
use native.Mathlib.Omega.{arith}
use lib.ListN.{length, get_or, set}
use Rattle.laws.specs.Lists.{over}
use Rattle.laws.proofs.Writing.{Wrote, over_is}

-- a list whose first entry stands for what is written first
pub opened : (rest l : List ℕ) → 1 ≤ length l → Wrote (get_or l 0 0 ∷ rest) l rest l 1
opened rest [] h = absurd (omega arith)
opened rest (x ∷ xs) h = record { w = x ∷ []; len = refl; is = sym (over_is (x ∷ []) (x ∷ xs)); left = refl }

-- a first entry, stored, and the others written after it: all of them over the front
pub opened-over : (x : ℕ) (rest l : List ℕ) → 1 ≤ length l → over (get_or (set l 0 x) 0 0 ∷ rest) (set l 0 x) ≡ over (x ∷ rest) l
opened-over x rest [] h = absurd (omega arith)
opened-over x rest (y ∷ l) h = over_is (x ∷ rest) (x ∷ l) ∙ sym (over_is (x ∷ rest) (y ∷ l))

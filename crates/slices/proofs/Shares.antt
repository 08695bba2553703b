-- A duty's slice is T·C/D.
-- Assumes nothing.
use Prim.Native.Nat.{ℕ, ◌*◌, ◌/◌}
use mathlib.Core.Path.{◌≡◌, refl}
use Rattle.paper.specs.declared.Duty.{Duty}
use Rattle.paper.specs.Words.{slice}

pub slice_is : (t : ℕ) (x : Duty) → slice t x ≡ t * x.service / x.period
unfolding slice
slice_is t x = refl

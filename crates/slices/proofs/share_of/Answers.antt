-- `share_of`: T·C/D is at most T since C is at most D.
use mathlib.Core.Path.{refl}
use native.Mathlib.Nat.{div-le_of_le-mul, mul-le-mul_left}
use native.Mathlib.Omega.{arith}
use Rattle.paper.specs.Words.{slice, whole}
use Rattle.slices.proofs.share_of.Goals as goal

pub returns : goal.returns
unfolding slice whole
returns c =
    rw (c.from.ensures, c.from-2.ensures, c.from-period.ensures)
    (refl, refl, div-le_of_le-mul c.args.x.period (omega (arith, mul-le-mul_left c.args.t c.requires.2)), refl)

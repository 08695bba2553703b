-- `multiple_of`: the first number has a divisor with the second that is not 0, and what is left of it times the second is the multiple.
use native.Mathlib.Nat.{pos_of_dvd_of_pos}
use Rattle.laws.proofs.Divisor.{gcd_left}
use Rattle.laws.proofs.Multiple.{lcm_is}
use Rattle.share_common.proofs.multiple_of.Goals as goal

pub nonzero_div-a : goal.nonzero_div-a
nonzero_div-a c = rw c.gcd_of.ensures (pos_of_dvd_of_pos (gcd_left c.args.a c.args.b) c.requires)

pub returns : goal.returns
returns c = rw (lcm_is c.args.a c.args.b, ← c.gcd_of.ensures) c.checked_mul.ensures

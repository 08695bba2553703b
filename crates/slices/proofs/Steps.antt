-- The laws of a greatest common divisor that the check is to look for in a loop: of two numbers by Euclid's steps, and of a list one by
-- one.
use Rattle.laws.proofs.Divisor.{gcd-zero, gcd_step, gcd-start, gcd_further, gcd-finished}

pub ruleset divisor_steps = (gcd-zero, gcd_step, gcd-start, gcd_further, gcd-finished)

-- `run_in_range`: the four tests are the definition's. The sum of two 32-bit numbers fits 64 bits.
use mathlib.Core.Path.{refl}
use Rattle.record_tests.proofs.run_in_range.Goals as goal

pub returns : goal.returns
returns c = rw (c.from.ensures, c.from-2.ensures, c.from-3.ensures) refl

-- `head_in_range`: the three tests are the definition's.
use mathlib.Core.Path.{refl}
use Rattle.record_tests.proofs.head_in_range.Goals as goal

pub returns : goal.returns
returns c = rw (c.period_in_range.ensures, c.is_within.ensures, c.is_within-2.ensures) refl

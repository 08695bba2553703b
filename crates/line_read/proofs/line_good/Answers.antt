-- `line_good`: the three tests of the definition.
use mathlib.Core.Path.{refl}
use Rattle.line_read.proofs.line_good.Goals as goal

pub returns : goal.returns
returns c = rw c.duty_line_good.ensures refl

-- `engines_read`: a line that is good and no `-` is a number.
use mathlib.Core.Path.{refl, sym, ◌∙◌}
use Rattle.line_read.proofs.engines_read.Goals as goal

pub returns-then-is_dash : goal.returns-then-is_dash
returns-then-is_dash c = rw (sym c.is_dash.ensures ∙ c.if-is_dash.true) refl

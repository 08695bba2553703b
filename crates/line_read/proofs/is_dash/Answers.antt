-- `is_dash`: the same text as the one byte `-`.
use mathlib.Core.Path.{◌∙◌}
use mathlib.Core.List.{[], ◌∷◌}
use Rattle.line_read.proofs.First.{pointwise_same}
use Rattle.line_read.proofs.is_dash.Goals as goal

pub returns : goal.returns
returns c = c.eq.ensures ∙ rw c.as_slice.ensures (pointwise_same c.args.c.now (45 ∷ []))

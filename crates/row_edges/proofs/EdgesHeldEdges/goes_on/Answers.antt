-- `goes_on` by rows: the last unit of the one row and the first of the other, compared.
use mathlib.Core.Path.{refl, ◌∙◌}
use Rattle.row_edges.proofs.EdgesHeldEdges.goes_on.Goals as goal

pub returns : goal.returns
returns c = c.same_duty.ensures ∙ rw (c.last.ensures, c.first.ensures) refl

-- `goes_on` by codes: the code of the last unit of the one row and that of the first of the other, compared.
use Rattle.row_edges.proofs.ArrayU32EDGESHeldEdges.goes_on.Goals as goal

pub returns : goal.returns
returns c = c.same_code.ensures

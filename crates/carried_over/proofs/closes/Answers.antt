-- `closes`: the two rows are the definition's.
use Rattle.carried_over.proofs.closes.Goals as goal

pub returns : goal.returns
returns g c = c.goes_on.ensures

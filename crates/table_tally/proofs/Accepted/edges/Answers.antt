-- `edges`: they are the table's, which tell its links.
use Rattle.table_tally.proofs.Linked.{ready_links, ready_ends}
use Rattle.table_tally.proofs.Accepted.edges.Goals as goal

pub returns-clause-links : goal.returns-clause-links
returns-clause-links c = rw (← c.self.view_is) (ready_links c.self.invariant)

pub returns-clause-ends : goal.returns-clause-ends
returns-clause-ends c = rw (← c.self.view_is) (ready_ends c.self.invariant)

-- `runs`: as many as the reading tells.
use mathlib.Core.Path.{ap}
use Rattle.paper.specs.declared.Reading.{Reading}
use Rattle.record_read.proofs.Table.{seen_reading}
use Rattle.record_read.proofs.TableBytes.runs.Goals as goal

pub returns-clause-told : goal.returns-clause-told
returns-clause-told c = ap (λ (r : Reading). r.runs) (seen_reading c.self.invariant c.self.view_is)

-- `reading`: the reading that the reader told is that of the table, which is in its ranges.
use mathlib.Core.Path.{refl}
use Rattle.record_read.proofs.Table.{seen_reading, seen_ranged}
use Rattle.record_read.proofs.TableBytes.reading.Goals as goal

pub returns-clause-told : goal.returns-clause-told
returns-clause-told c = seen_reading c.self.invariant c.self.view_is

pub returns-clause-fields : goal.returns-clause-fields
returns-clause-fields c = rw (seen_reading c.self.invariant c.self.view_is) (refl, refl, refl, refl)

pub returns-clause-ranged : goal.returns-clause-ranged
returns-clause-ranged c = seen_ranged c.self.invariant c.self.view_is

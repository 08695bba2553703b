-- `duty`: the bytes reach past every duty record, and what is read there is the table's duty.
use mathlib.Core.Path.{ap, ◌∙◌}
use native.Mathlib.Omega.{arith}
use Rattle.paper.specs.Bytes.{duty_in}
use Rattle.record_read.proofs.Table.{duties_seen, seen_duty, seen_ranged}
use Rattle.record_read.proofs.TableBytes.duty.Goals as goal

pub duty_place-requires : goal.duty_place-requires
duty_place-requires c = omega (arith, seen_ranged c.self.invariant c.self.view_is)

pub read_duty-requires : goal.read_duty-requires
read_duty-requires c = omega (arith, duties_seen c.self.invariant c.self.view_is, c.self.invariant.long)

pub returns-clause-told : goal.returns-clause-told
returns-clause-told c =
    c.read_duty.ensures ∙ ap (duty_in _) c.duty_place.ensures ∙ seen_duty c.self.invariant c.self.view_is _ c.requires

pub returns-clause-ranged : goal.returns-clause-ranged
returns-clause-ranged c =
    rw (c.read_duty.ensures, c.duty_place.ensures, seen_duty c.self.invariant c.self.view_is _ c.requires)
    ((seen_ranged c.self.invariant c.self.view_is).duty_ranged_lem _ c.requires)

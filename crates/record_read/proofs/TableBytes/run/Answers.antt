-- `run`: the bytes reach past every run record, and what is read there is the table's run.
use mathlib.Core.Path.{ap, ◌∙◌}
use native.Mathlib.Omega.{arith}
use Rattle.paper.specs.Bytes.{run_in}
use Rattle.paper.specs.Limits.{small}
use Rattle.record_read.proofs.Table.{duties_seen, runs_seen, seen_run, seen_ranged}
use Rattle.record_read.proofs.TableBytes.run.Goals as goal

pub run_place-requires : goal.run_place-requires
run_place-requires c = omega (arith, seen_ranged c.self.invariant c.self.view_is, duties_seen c.self.invariant c.self.view_is)

pub read_run-requires : goal.read_run-requires
read_run-requires c = omega (arith, runs_seen c.self.invariant c.self.view_is, c.self.invariant.long)

pub returns-clause-told : goal.returns-clause-told
returns-clause-told c =
    c.read_run.ensures ∙ ap (run_in small _) c.run_place.ensures ∙ seen_run c.self.invariant c.self.view_is _ c.requires

pub returns-clause-ranged : goal.returns-clause-ranged
returns-clause-ranged c =
    rw (c.read_run.ensures, c.run_place.ensures, seen_run c.self.invariant c.self.view_is _ c.requires)
    ((seen_ranged c.self.invariant c.self.view_is).run_ranged_lem _ c.requires)

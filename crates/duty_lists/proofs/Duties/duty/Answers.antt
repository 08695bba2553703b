-- `duty`: it is duty i of the two lists, which is in range as all of them are.
use mathlib.Core.Path.{sym, ap, subst}
use native.Mathlib.Omega.{arith}
use lib.ListN.{length}
use Rattle.paper.specs.Statements.{DutyRanged}
use Rattle.duty_lists.proofs.Duties.duty.Goals as goal

pub returns-clause-ranged : goal.returns-clause-ranged
returns-clause-ranged c =
    subst DutyRanged (sym c.duty_at.ensures) (c.self.invariant.1.ranged c.args.i (omega (arith, c.requires, ap length c.self.view_is)))

-- `bad_range`: what is tested at index i is duty i of the two lists.
use Rattle.std.proofs.Common.{rules, not-suc-le-zero}
use mathlib.Core.Bool.{not}
use Rattle.paper.specs.Duties.{duty_at}
use Rattle.paper.specs.Bytes.{duty_ranged}
use Rattle.paper.specs.Wanted.{duties_of}
use Rattle.plan_laws.proofs.Planned.{length_duties}
use Rattle.duty_lists.proofs.bad_range.Goals as goal

pub returns : goal.returns
returns c =
    let ss = c.args.services.now in
    let ps = c.args.periods.now in
    rw (length_duties ss ps)
    (c.lowest.ensures (λ i. not (duty_ranged (duty_at (duties_of ss ps) i))) (λ k l. absurd (not-suc-le-zero l))
    (λ k b l h computed. search (rules, computed)))

-- `kept_over`: the reading's engines are the table's, and the chain of its last row ends with it; what its edges tell is the walk's.
use mathlib.Core.Path.{◌≡◌, ap, ◌∙◌}
use native.Mathlib.Omega.{arith}
use Rattle.paper.specs.Limits.{small}
use Rattle.paper.specs.Words.{Table}
use Rattle.walk_laws.proofs.Page.{carried, carried_few}
use Rattle.carried_over.proofs.Carrying.{carried_code}
use Rattle.carried_over.proofs.kept_over.Goals as goal
use Rattle.carried_over.proofs.kept_over.Goals.{After-reading-engines}

engines-are : (c : After-reading-engines) → c.reading-engines.result.engines ≡ c.args.accepted.now.engines
engines-are c = ap (λ r. r.engines) c.reading-engines.ensures.told ∙ ap (λ (t : Table). t.engines) c.table.ensures.same

pub carried-requires : goal.carried-requires
carried-requires c =
    let are = engines-are (goal.at.carried-requires c).After-reading-engines in
    (rw are (omega (arith, c.table.ensures.ranged)), rw are c.edges.ensures.ends)

pub returns : goal.returns
returns c =
    let t = c.args.accepted.now in
    let are = engines-are (goal.at.returns c).After-reading-engines in
    let told : c.carried.result ≡ carried t =
    c.carried.ensures.0 ∙ rw (are, c.edges.ensures.told) (carried_code t c.table.ensures.ranged) in
    record { told = told; few = omega (arith, told, carried_few small t c.table.ensures.ranged c.table.ensures.meets) }

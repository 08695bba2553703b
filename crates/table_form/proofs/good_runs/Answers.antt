-- `good_runs`: a search never passes its end.
use Rattle.std.proofs.Common.{◌≡◌, rules}
use Rattle.laws.proofs.Search.{first-le}
use Rattle.paper.specs.Limits.{small, most_runs}
use Rattle.paper.specs.Bytes.{duties_in, good_runs}
use Rattle.table_form.proofs.good_runs.Goals as goal

pub returns-clause-few : goal.returns-clause-few
returns-clause-few c =
    let told : c.lowest.result ≡ good_runs small c.args.bytes.now (duties_in small c.args.bytes.now) = search (rules, c.lowest.ensures) in
    rw told (first-le _ most_runs)

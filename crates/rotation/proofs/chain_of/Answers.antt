-- `chain_of`: from the first row of the row's chain to its last.
use native.Mathlib.Omega.{arith}
use Rattle.walk_laws.proofs.Page.{in_chain}
use Rattle.rotation.proofs.chain_of.Goals as goal

pub returns : goal.returns
returns g c =
    let first = c.chain_first-first.ensures in
    let last = c.chain_last-last.ensures in
    (in_chain _ first.0 last.after last.chained last.ends, omega arith)

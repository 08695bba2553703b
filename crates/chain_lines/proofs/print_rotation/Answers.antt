-- `print_rotation`: the loads are written behind the chains.
use mathlib.Core.Path.{◌≡◌, ap, ◌∙◌}
use native.Mathlib.Omega.{arith}
use lib.ListN.{length}
use Rattle.laws.proofs.Writing.{length-lent, written, grown, all_written}
use Rattle.paper.specs.Words.{Table}
use Rattle.chain_lines.proofs.ChainLines.{loads_told, by_name}
use Rattle.chain_lines.proofs.print_rotation.Goals as goal
use Rattle.chain_lines.proofs.print_rotation.Goals.{After-kept_over-kept}

-- the reading's runs are the table's
runs-are : (c : After-kept_over-kept) → c.reading-runs.result.runs ≡ length c.args.accepted.now.runs
runs-are c = ap (λ r. r.runs) c.reading-runs.ensures.told ∙ ap (λ (t : Table). length t.runs) c.table.ensures.same

pub print_loads-requires : goal.print_loads-requires
print_loads-requires c =
    let runs = runs-are (goal.at.print_loads-requires c).After-kept_over-kept in
    let few = c.table.ensures.ranged.runs_most in
    (omega (arith, runs, few), omega (arith, runs, few), rw length-lent (omega (arith, c.print_chains-at.ensures.upper_bound)))

pub overflow_add-result : goal.overflow_add-result
overflow_add-result c = omega (arith, c.print_loads.ensures.upper_bound, c.print_chains-at.ensures.upper_bound)

pub returns : goal.returns
returns c =
    let at = (goal.at.returns c).After-kept_over-kept in
    let put = c.print_chains-at.ensures in
    let loads = c.print_loads.ensures in
    let table = c.table.ensures in
    let line = loads_told c.args.accepted.now table.ranged table.meets (runs-are at) c.kept_over-kept.ensures.told in
    let chains = written _ _ _ _ put.puts.1 put.puts.0 in
    let both = grown _ _ _ chains (loads.puts.0 ∙ ap length line) (by_name _ loads.puts.1 line) in
    record { puts = all_written both; upper_bound = omega (arith, put.upper_bound, loads.upper_bound) }

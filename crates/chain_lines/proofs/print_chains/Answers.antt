-- `print_chains`: at row `first` the lines of the chains that begin before it are written.
use mathlib.Core.Path.{◌≡◌, ap, ◌∙◌}
use Prim.Native.Nat.{◌≤◌}
use native.Mathlib.Omega.{arith}
use borrow.Author.Rules.{rules}
use Rattle.laws.proofs.Writing.{length-lent}
use Rattle.paper.specs.Limits.{most_engines}
use Rattle.paper.specs.Rotation.{first_of}
use Rattle.paper.specs.Words.{Table}
use Rattle.row_edges.specs.Links.{link_of}
use Rattle.walk_laws.proofs.Page.{onward}
use Rattle.chain_lines.proofs.ChainLines.{chained_start, chained_more}
use Rattle.chain_lines.proofs.print_chains.Goals as goal
use Rattle.chain_lines.proofs.print_chains.Goals.{After-reading-engines}

-- the reading's engines are the table's, and the chain of the last row ends with it
engines-are : (c : After-reading-engines) → c.reading-engines.result.engines ≡ c.args.accepted.now.engines
engines-are c = ap (λ r. r.engines) c.reading-engines.ensures.told ∙ ap (λ (t : Table). t.engines) c.table.ensures.same

ends : (c : After-reading-engines)
    → first_of (link_of c.edges-edges.result.now.rows) c.reading-engines.result.engines ≡ c.reading-engines.result.engines
ends c = rw (engines-are c) c.edges-edges.ensures.ends

-- the engines are few, and with a chain of theirs one is not past the last
few : (c : After-reading-engines) → c.reading-engines.result.engines ≤ most_engines
few c = omega (arith, engines-are c, c.table.ensures.ranged.engines_most)

pub loop-first-init : goal.loop-first-init
loop-first-init c = chained_start _ _ _

pub print_chain-at-requires : goal.print_chain-at-requires
print_chain-at-requires c =
    let start = (goal.at.print_chain-at-requires c).After-reading-engines in
    let chain = c.chain_of-chain.ensures in
    let on = onward _ start.reading-engines.result.engines (ends start) c.loop-first.invariant.begins chain.0 (search rules) in
    (omega (arith, on, few start), omega (arith, on, few start), rw length-lent (omega (arith, few start)))

pub overflow_add-at : goal.overflow_add-at
overflow_add-at c =
    let start = (goal.at.overflow_add-at c).After-reading-engines in
    omega (arith, c.print_chain-at.ensures.upper_bound, few start)

pub loop-first-preserved : goal.loop-first-preserved
loop-first-preserved c =
    let start = (goal.at.loop-first-preserved c).After-reading-engines in
    let chain = c.chain_of-chain.ensures in
    let put = c.print_chain-at in
    let link = link_of c.edges-edges.result.now.rows in
    let engines = start.reading-engines.result.engines in
    chained_more link engines (ends start) c.loop-first.invariant (search rules) chain.0 put.new.out put.result put.ensures.puts.0
    put.ensures.puts.1 put.ensures.upper_bound (search rules)

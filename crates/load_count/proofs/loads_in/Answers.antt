-- `loads_in`: a load for each run, and in each later block but for those carried over the boundary.
use mathlib.Core.Path.{◌≡◌, refl, ap, ◌∙◌}
use borrow.Author.Tests.{eq-eqb, ne_eqb}
use lib.ListN.{length}
use Prim.Native.Nat.{ℕ, ◌+◌, ◌*◌, ◌-◌}
use Rattle.paper.specs.Walk.{loads}
use Rattle.paper.specs.Statements.{Ranged, Meets}
use Rattle.paper.specs.Limits.{small}
use Rattle.paper.specs.Words.{Table}
use Rattle.walk_laws.proofs.Page.{carried, loads_are}
use Rattle.load_count.proofs.loads_in.Goals as goal
use Rattle.load_count.proofs.loads_in.Goals.{After-from}

-- the reading's runs are the table's, and what is kept is what the table carries
runs-are : (c : After-from) → c.from.result ≡ length c.args.accepted.now.runs
runs-are c =
    c.from.ensures ∙ ap (λ r. r.runs) c.reading-reading.ensures.told ∙ ap (λ (t : Table). length t.runs) c.table.ensures.same

kept-is : (c : After-from) → c.from-kept.result ≡ carried c.args.accepted.now
kept-is c = c.from-kept.ensures ∙ c.kept_over.ensures.told

pub returns-then-blocks-eq0 : goal.returns-then-blocks-eq0
returns-then-blocks-eq0 c =
    let t = c.args.accepted.now in
    rw (loads_are small t c.table.ensures.ranged c.table.ensures.meets c.args.blocks, eq-eqb c.args.blocks 0 c.if-blocks-eq0.true) refl

-- so many runs in the first block, and in each later one but for what is kept
told : (t : Table) → Ranged small t → Meets t → (blocks : ℕ) → (blocks ≡ 0 → ⊥) → {runs kept : ℕ} → runs ≡ length t.runs → kept ≡ carried t
    → runs + (blocks - 1) * (runs - kept) ≡ loads t blocks
told t g o blocks some e f = rw (e, f, loads_are small t g o blocks, ne_eqb blocks 0 some) refl

pub returns : goal.returns
returns c =
    let at = (goal.at.returns c).After-from in
    let table = c.table.ensures in
    c.over_blocks.ensures ∙ told c.args.accepted.now table.ranged table.meets c.args.blocks c.if-blocks-eq0.false (runs-are at) (kept-is at)

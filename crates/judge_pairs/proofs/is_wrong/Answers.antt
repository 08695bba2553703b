-- `is_wrong`: the one look (`wrong-told`), on one row and on two.
use Rattle.std.proofs.Common.{rules}
use borrow.Author.Tests.{eq-eqb, ne_eqb}
use Rattle.table_laws.proofs.Forerunners.{wrong-told}
use Rattle.judge_pairs.proofs.is_wrong.Goals as goal

pub returns-then-eq : goal.returns-then-eq
returns-then-eq c =
    let one_row = eq-eqb c.args.x.row.0 c.args.y.row.0 (search rules) in
    rw (wrong-told c.args.x c.args.y c.requires.1, one_row)

pub returns-else-eq : goal.returns-else-eq
returns-else-eq c =
    let two-rows = ne_eqb c.args.x.row.0 c.args.y.row.0 (search rules) in
    rw (wrong-told c.args.x c.args.y c.requires.1, two-rows)

-- `print_text`: what follows from the table is written behind what stands in it.
use Rattle.laws.proofs.Writing.{written, grown, all_written, renamed}
use Rattle.plan_text.proofs.Rotating.{text_is}
use borrow.Author.Rules.{rules}
use Rattle.plan_text.proofs.print_text.Goals as goal

pub returns : goal.returns
returns c =
    let table = rw c.table.ensures.same at c.print_table-at.ensures.puts in
    let rotation = c.print_rotation.ensures.puts in
    let first = written _ _ _ _ table.1 table.0 in
    let both = grown _ _ _ first rotation.0 rotation.1 in
    record { puts = all_written (renamed (text_is c.args.accepted.now) both); upper_bound = search rules }

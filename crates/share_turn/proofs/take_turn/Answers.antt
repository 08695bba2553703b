-- `take_turn`: the tests count as 1 or 0 what the definitions name, and step 4 is the carry's law.
use mathlib.Core.Path.{◌∙◌}
use borrow.Author.Rules.{rules}
use Rattle.share_turn.proofs.Carry.{counted, next_whole, next_part}
use Rattle.share_turn.proofs.take_turn.Goals as goal

pub returns-clause-whole_value : goal.returns-clause-whole_value
returns-clause-whole_value c =
    let a = c.args in
    let carry = c.from.ensures ∙ counted _ in
    let took = c.from-took.ensures ∙ counted _ in
    (next_whole a.period a.share.whole a.share.part a.need.part a.chosen _ _ carry took (search rules), search rules)

pub returns-clause-part_value : goal.returns-clause-part_value
returns-clause-part_value c =
    let a = c.args in
    c.part_of-part.ensures ∙ next_part a.period a.share.whole a.share.part a.need.part a.chosen (search rules)

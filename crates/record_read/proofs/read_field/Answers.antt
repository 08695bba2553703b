-- `read_field`: the field's bytes and zeros after them are one number of four bytes.
use Rattle.std.proofs.Common.{◌∙◌, ◌+◌, ◌-◌, ◌≡◌, ap, drop, take, [], ◌∷◌, arith, rules}
use Rattle.std.proofs.lemmas.List.{length-take-le}
use Rattle.laws.specs.Digits.{num_at}
use Rattle.record_read.proofs.Field.{field_number, num_at_below}
use Rattle.record_read.proofs.read_field.Given.{Over}
use Rattle.record_read.proofs.read_field.Goals as goal
use Rattle.record_read.proofs.read_field.Goals.{After-from_le_bytes}

told : (g : Over) (c : After-from_le_bytes g) → c.from_le_bytes.result ≡ num_at g.row.N c.args.b.now c.args.at
told g c =
    let N = g.row.N in
    let size : c.args.at + N - c.args.at ≡ N = omega arith in
    let long = c.copy_from_slice.ensures.len ∙ length-take-le N (0 ∷ 0 ∷ 0 ∷ 0 ∷ []) c.requires.short in
    c.from_le_bytes.ensures
    ∙ field_number _ _ _ _ c.requires.short long (c.copy_from_slice.ensures.after ∙ ap (λ n. take n (drop c.args.at c.args.b.now)) size)

pub returns-clause-told : goal.returns-clause-told
returns-clause-told g c = told g c

pub returns-clause-bounded : goal.returns-clause-bounded
returns-clause-bounded g c = rw (told g c) (num_at_below g.row.N c.args.b.now _ (λ i. search (rules, c.type_inv.b i)))

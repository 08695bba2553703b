-- `row_of`: the places together are fewer than two lengths of the chain, so the remainder is one difference at most, and nothing wraps.
use Prim.Native.Nat.{◌+◌}
use mathlib.Core.Path.{sym, ap}
use native.Mathlib.Nat.{mod-eq_of_lt}
use Rattle.paper.specs.Words.{row}
use borrow.Author.Rules.{rules}
use Rattle.rotation.proofs.row_of.Goals as goal

pub returns-then-on-length : goal.returns-then-on-length
returns-then-on-length c = ap row (ap (λ n. c.args.turned.chain.first.0 + n) (sym (mod-eq_of_lt (search rules))))

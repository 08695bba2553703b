-- `find`: the place that the library finds, or the length.
use Prim.Native.Nat.{ℕ}
use lib.ListN.{length}
use mathlib.Core.Path.{ap}
use Rattle.std.proofs.Common.{Option}
use Rattle.std.specs.Option.{unwrap_or}
use mathlib.Core.Path.{◌≡◌, ◌∙◌}
use lib.Dec.{eqb}
use Rattle.std.specs.List.{position}
use borrow.Author.Rules.{rules}
use borrow.Author.Tests.{tests}
use Rattle.std.proofs.lemmas.Iterator.{YieldsList-from_slice}
use Rattle.std.proofs.lemmas.Iterator.Search.{position_from_yields_List}
use Rattle.line_read.proofs.First.{place_or_length}
use Rattle.line_read.proofs.find.Goals as goal

pub returns-clause-value : goal.returns-clause-value
returns-clause-value c =
    let b = c.args.b.now in
    let found : c.position.result ≡ position (λ y. eqb y c.args.x) b =
    position_from_yields_List (λ y. eqb y c.args.x) _ _ _ c.position.ensures.ran (YieldsList-from_slice b cc)
    (λ x b q k. search (rules, tests)) in
    c.unwrap_or.ensures ∙ ap (λ (p : Option ℕ). unwrap_or p (length b)) found ∙ place_or_length c.args.x b

-- `chain_last`: the first row is the same all along the links, so the row where they end is of the same chain.
use Prim.Native.Nat.{ℕ, ◌+◌, ◌-◌, ◌≤◌, ◌<◌}
use mathlib.Core.Path.{◌≡◌, sym, ap, ◌∙◌}
use mathlib.Core.Bool.{Bool, true, false}
use native.Mathlib.Omega.{arith}
use borrow.Author.Rules.{rules}
use borrow.Author.Tests.{tests}
use Rattle.std.specs.Prelude.{Option, Some, None}
use Rattle.std.specs.Option.{unwrap_or}
use Rattle.std.proofs.Common.{MatchOption}
use Rattle.std.proofs.lemmas.Iterator.{first_from_Range}
use Rattle.paper.specs.Limits.{most_engines}
use Rattle.paper.specs.Rotation.{first_of}
use Rattle.walk_laws.proofs.Page.{first_along}
use Rattle.row_edges.specs.Links.{link_by}
use Rattle.row_edges.proofs.Linking.{link_past, link_at}
use Rattle.rotation.specs.Turning.{IsLast}
use Rattle.rotation.proofs.chain_last.Goals as goal

-- linked from row r on as far as row k: of one chain
chained : (c : ℕ → Bool) (r k : ℕ) → r ≤ k → ((j : ℕ) → r ≤ j → j < k → c j ≡ true) → first_of c k ≡ first_of c r
chained c r k a h =
    let e : r + (k - r) ≡ k = omega arith in
    sym (ap (first_of c) e) ∙ first_along c r (k - r) (λ j b d. h j b (omega arith))

-- the row found is the last of the chain, and where none is found the last that there may be
module _ (goes_on : ℕ → ℕ → Bool) (r : ℕ) where
  last : (o : Option ℕ) → r ≤ most_engines
      → MatchOption o ((k : ℕ) → r ≤ k → k < most_engines → goes_on k (k + 1) ≡ true)
      (λ i. (r ≤ i) × (i < most_engines) × (goes_on i (i + 1) ≡ false) × ((k : ℕ) → r ≤ k → k < i → goes_on k (k + 1) ≡ true))
      → IsLast (link_by goes_on) r (unwrap_or o most_engines)
  last None l h =
      record {
        after = l;
        most = omega arith;
        chained = chained (link_by goes_on) r most_engines l (λ k b d. sym (link_at goes_on d) ∙ h k b d);
        ends = link_past goes_on (omega arith);
      }
  last (Some i) l h =
      record {
        after = h.0;
        most = omega (arith, h.1);
        chained = chained (link_by goes_on) r i h.0 (λ k b d. sym (link_at goes_on (omega (arith, h.1))) ∙ h.3 k b d);
        ends = sym (link_at goes_on h.1) ∙ h.2;
      }

pub returns : goal.returns
returns g c =
    let goes_on = g.E.HeldEdges.goes_on c.args.edges.now in
    let found = first_from_Range _ _ _ _ (λ k. goes_on k (k + 1) ≡ false) (λ k. goes_on k (k + 1) ≡ true) c.find-last.ensures.ran
    (λ x q k. search (rules, tests)) (λ x q k. (search rules, search (rules, tests))) in
    rw c.unwrap_or.ensures (last goes_on c.args.row.0 c.find-last.result (search rules) found)

-- The cuts kept in a list, each at its block's number: one more does not change those before it. Two passes one after the other keep the
-- cuts of all blocks, since the second leaves what the first has kept.
-- Assumes nothing.
use Prim.Native.Nat.{ℕ, ◌+◌, ◌≤◌, ◌<◌}
use mathlib.Core.Path.{◌≡◌, ◌∙◌}
use mathlib.Core.List.{List}
use native.Mathlib.Omega.{arith}
use lib.ListN.{length, set}
use lib.Seq.{get_or-set_same, get_or-set_other}
use Rattle.laws.proofs.Cases.{lt_or_le}
use Rattle.paper.specs.Sa2.{Sharing}
use Rattle.share_laws.specs.Cut.{cut_at, HasCuts}
use Rattle.share_pass.specs.Passing.{CutsKept}

pub kept_more :
    {s : Sharing} {from b : ℕ} {before cuts : List ℕ} (cut : ℕ) → CutsKept s from b before cuts → from ≤ b → b < length cuts
    → cut ≡ cut_at s b → CutsKept s from (b + 1) before (set cuts b cut)
kept_more {s} {from} {b} {before} {cuts} cut k h l e =
    record {
      has = λ j x y.
          lt_or_le j b
          (λ z. get_or-set_other cuts b j cut 0 (λ q. omega arith) ∙ k.has j x z)
          (λ z. let q : j ≡ b = omega arith in rw q (get_or-set_same cuts b cut 0 l ∙ e));
      earlier = λ j x. get_or-set_other cuts b j cut 0 (λ q. omega arith) ∙ k.earlier j x;
    }

-- one pass after the other
pub kept_both :
    {s : Sharing} {from mid to : ℕ} {before between after : List ℕ} → CutsKept s from mid before between → CutsKept s mid to between after
    → HasCuts s from to after
kept_both {s} {from} {mid} k g b x y = lt_or_le b mid (λ z. g.earlier b z ∙ k.has b x z) (λ z. g.has b z y)

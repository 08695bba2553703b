-- Two passes one after the other look at all blocks: up to the one that is kept, and from there to the end. The first block at which a pass
-- stops is the first that comes short; where the first pass stops, the second is not made. The cuts that both have kept are those of all
-- blocks.
-- Assumes nothing.
use Prim.Native.Nat.{ℕ, ◌+◌, ◌≤◌, ◌<◌}
use mathlib.Core.Path.{◌≡◌, ◌∙◌}
use mathlib.Core.Bool.{true}
use mathlib.Core.List.{List}
use native.Mathlib.Omega.{arith}
use borrow.Author.Tests.{lt-ltb, le-ltb}
use Rattle.std.specs.Prelude.{Result, Ok, Err, ⊤}
use Rattle.laws.proofs.Cases.{lt_or_le}
use Rattle.laws.proofs.Search.{Clear, first_is, first_none}
use Rattle.paper.specs.declared.Refusal.{Refusal}
use Rattle.paper.specs.Outcome.{refused, answer, refused_as}
use Rattle.paper.specs.Sa2.{Sharing}
use Rattle.paper.specs.Shares.{blocks, failing, steady}
use Rattle.share_laws.proofs.Steps.{InBlocks}
use Rattle.share_laws.proofs.ShortWhen.{failing_short}
use Rattle.share_block.specs.Paced.{Pace, pace, short_at}
use Rattle.share_pass.specs.Passing.{Passed, Stopped, Passes}
use Rattle.share_pass.proofs.Keeping.{kept_both}
use Rattle.share_survey.specs.Looking.{Looks}

module _ {s : Sharing} (c : InBlocks s) where
  -- the first block that comes short is the first that fails
  bad : (b : ℕ) → b < blocks s → short_at s b ≡ true → Clear (short_at s) b → steady s ≡ refused 23 b
  bad b l h k =
      let e : failing s ≡ b = failing_short s c ∙ first_is (short_at s) (blocks s) b l k h in
      rw (e, lt-ltb b (blocks s) l)

  good : Clear (short_at s) (blocks s) → steady s ≡ answer s
  good k =
      let e : failing s ≡ blocks s = failing_short s c ∙ first_none (short_at s) (blocks s) k in
      rw (e, le-ltb (blocks s) (blocks s) (omega arith))

  module _ {p : Pace} (e : p ≡ pace s 0) where
    -- the first pass stops
    pub look_stopped : {to : ℕ} {cuts cuts' : List ℕ} {why : Refusal} {q : Pace} → Stopped p to cuts why q cuts' → to ≤ blocks s
        → steady s ≡ refused_as why
    look_stopped t l =
        let u = rw e at t in
        rw u.told (bad u.block (omega (arith, u.most)) u.stopped (λ k h. u.clear k (omega arith) h))

    -- the first pass ends, so what the last of its blocks gave is kept, and the second goes on
    pub look_ended :
        {keep n : ℕ} {units cuts units' cuts' : List ℕ} {q : Pace} (spare spare' cuts'' : List ℕ) (q' : Pace) (r : Result ⊤ Refusal)
        → Passed p (keep + 1) units cuts q units' cuts' → n ≡ blocks s → keep < n → Passes q n spare cuts' r q' spare' cuts''
        → Looks s keep r units units' cuts''
    look_ended {keep} {n} spare spare' cuts'' q' (Ok u) t m h g =
        let first = rw e at t in
        let second = rw (first.paced, m) at g in
        record {
          good = good (λ k l. lt_or_le k (keep + 1) (first.clear k (omega arith)) (λ z. second.clear k z l));
          kept = first.last keep (omega arith) (omega arith);
          cut = kept_both first.kept second.kept;
        }
    look_ended {keep} {n} spare spare' cuts'' q' (Err why) t m h g =
        let first = rw e at t in
        let second = rw (first.paced, m) at g in
        rw second.told
        (bad second.block second.most second.stopped
        (λ k l. lt_or_le k (keep + 1) (first.clear k (omega arith)) (λ z. second.clear k z l)))

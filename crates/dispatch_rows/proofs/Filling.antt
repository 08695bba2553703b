-- Rows that are filled in engine by engine.
-- Assumes nothing.
use Prim.Native.Nat.{ℕ, ◌+◌, ◌<◌}
use mathlib.Core.Path.{◌≡◌, refl, sym, ◌∙◌}
use mathlib.Core.Bool.{Bool}
use native.Mathlib.Omega.{arith}
use lib.Dec.{ltb}
use lib.ListN.{set, replicate}
use borrow.Author.Tests.{lt-ltb, le-ltb}
use Rattle.laws.specs.Choice.{pick}
use Rattle.laws.specs.Lists.{tab}
use Rattle.laws.proofs.Cases.{lt_or_le}
use Rattle.laws.proofs.Lists.{set_of}
use Rattle.paper.specs.declared.Row.{Row}
use Rattle.paper.specs.Limits.{most_engines}
use Rattle.paper.specs.Duties.{engine}
use Rattle.paper.specs.Words.{row}
use Rattle.paper.specs.Rotation.{row_at}
use Rattle.paper.specs.Answers.{rows_at}

-- filled for no engine, for one more, and for all: what stands so far is the block's rows of so many engines
module _ (c : ℕ → Bool) (b : ℕ) where
  pub rows_none : replicate most_engines (row 0) ≡ rows_at c 0 b
  unfolding rows_at tab
  rows_none = refl

  pub rows_more : (i : ℕ) {r : Row} → i < most_engines → r ≡ row_at c b (engine i) → set (rows_at c i b) i r ≡ rows_at c (i + 1) b
  unfolding rows_at
  rows_more i {r} h e =
      set_of (row 0) most_engines i r (row_of i) (row_of (i + 1)) h (e ∙ sym (rw (lt-ltb i (i + 1) (omega arith))))
      (λ k d. lt_or_le k i
      (λ l. rw (lt-ltb k i l, lt-ltb k (i + 1) (omega arith)))
      (λ l. rw (le-ltb k i l, le-ltb k (i + 1) (omega arith))))
    where
      row_of : ℕ → ℕ → Row
      row_of m e = pick (ltb e m) (row_at c b (engine e)) (row 0)

-- Refusals 7 and 8 by numbers: what an answer tells of the tests.
-- Assumes nothing.
use Prim.Native.Nat.{ℕ, ◌≤◌}
use mathlib.Core.Path.{◌≡◌, sym}
use lib.Dec.{ltb}
use borrow.Author.Tests.{ltb-false}
use Rattle.paper.specs.Outcome.{answer}
use Rattle.paper.proofs.Outcomes.{answer_one, past}
use Rattle.sa1_runs.specs.Fitting.{fitted_by}

module _ (have laid needed room : ℕ) where
  -- what is answered is what is needed, and there is the room
  pub fitted_told : (k : ℕ) → answer k ≡ fitted_by have laid needed room → (k ≡ needed) × (needed ≤ room)
  fitted_told k e =
      let fits = (past (ltb have laid) 7 0 _ k (sym e)).1 in
      let z = past (ltb room needed) 8 needed _ k fits in
      (sym (answer_one needed k z.1), ltb-false room needed z.0)

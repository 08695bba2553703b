-- What is told of each run with the run before it, from run 1 on, is told by the test beside.
-- Assumes nothing.
use Prim.Native.Nat.{ℕ, zero, suc, ◌-◌, ◌≤◌}
use mathlib.Core.Path.{◌≡◌, ◌∙◌}
use mathlib.Core.Bool.{Bool}
use native.Mathlib.Nat.{not-suc-le-zero}
use native.Mathlib.Omega.{arith}
use Rattle.laws.proofs.Search.{Comparing, beside}

beside_at : (test : ℕ → ℕ → Bool) (k : ℕ) → 1 ≤ k → test (k - 1) k ≡ beside test k
unfolding beside
beside_at test zero h = absurd (not-suc-le-zero h)
beside_at test (suc k) h = let e : suc k - 1 ≡ k = omega arith in rw e

pub told : {test : ℕ → ℕ → Bool} {from k : ℕ} {b : Bool} → Comparing test from → from ≤ k → b ≡ test (k - 1) k → b ≡ beside test k
told {test} {from} {k} c l p = p ∙ beside_at test k (omega (arith, c.after_first))

use Rattle.std.proofs.Common.{◌≡◌, ◌≤◌, ◌<◌, ℕ, Bool}
use Rattle.laws.proofs.Search.{Clear}
use Rattle.search.proofs.lowest.Given as goal

-- whatever test of numbers the closure computes: those that were passed fail it
abbrev pub invariant-loop-k : goal.invariant-loop-k
invariant-loop-k g l =
    (p : ℕ → Bool) → Clear p l.from → ((k : ℕ) → (b : Bool) → l.from ≤ k → k < l.end → goal.F-post g l.test k b → b ≡ p k) → Clear p l.k

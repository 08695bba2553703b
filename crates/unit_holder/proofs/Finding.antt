-- Who holds a unit, by the first run that covers it: the runs before it cover nothing, so what all runs hold is what those from it on do.
-- Assumes nothing.
use Prim.Native.Nat.{ℕ, zero, suc, ◌≤◌, ◌<◌}
use mathlib.Core.Path.{◌≡◌, refl, ◌∙◌}
use mathlib.Core.Bool.{Bool}
use mathlib.Core.List.{List}
use native.Mathlib.Numerals.{add-one}
use native.Mathlib.Omega.{arith}
use lib.ListN.{length, drop}
use Rattle.laws.specs.Search.{first}
use Rattle.laws.proofs.Search.{Clear, first_holds, first_clear}
use Rattle.paper.specs.declared.Row.{Row}
use Rattle.paper.specs.declared.Run.{Run}
use Rattle.std.specs.Prelude.{None, Some}
use Rattle.paper.specs.Words.{covers, run_at, held_in}
use Rattle.paper.proofs.Holding.{held_from_yes, held_from_no, held_from_end}

module _ (xs : List Run) (r : Row) (u : ℕ) where
  -- runs that do not cover the unit do not count
  held_skip : (k : ℕ) → k ≤ length xs → Clear (λ j. covers (run_at xs j) r u) k → held_in xs r u ≡ held_in (drop k xs) r u
  held_skip zero h c = refl
  held_skip (suc k) h c =
      held_skip k (omega arith) (λ j l. c j (omega arith))
      ∙ rw (add-one k) at (held_from_no xs r u k (omega arith) (c k (omega arith)))

  -- the run found holds the unit for its duty
  pub held_found : (n k : ℕ) → n ≡ length xs → k ≡ first (λ j. covers (run_at xs j) r u) n → k < n
      → held_in xs r u ≡ Some (run_at xs k).duty
  held_found n k e f h =
      let test : ℕ → Bool = λ j. covers (run_at xs j) r u in
      held_skip k (omega arith) (rw f (first_clear test n))
      ∙ held_from_yes xs r u k (omega arith) (rw f (first_holds test n (rw f at h)))

  -- where none is found it is idle
  pub held_not_found : (n k : ℕ) → n ≡ length xs → k ≡ first (λ j. covers (run_at xs j) r u) n → n ≤ k → held_in xs r u ≡ None
  held_not_found n k e f h =
      held_skip n (omega arith) (λ j l. first_clear (λ i. covers (run_at xs i) r u) n j (omega arith))
      ∙ held_from_end xs r u n (omega arith)

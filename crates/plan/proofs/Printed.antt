-- What is printed, by what was read: the plan of it, or its refusal.
-- Assumes nothing.
use Prim.Native.Nat.{ℕ}
use mathlib.Core.Path.{◌≡◌, ap, subst, ◌∙◌}
use mathlib.Core.List.{List}
use Rattle.paper.specs.declared.Input.{Input}
use Rattle.paper.specs.Outcome.{Outcome, and_then, Puts}
use Rattle.paper.specs.Builder.{plan}
use Rattle.paper.specs.Text.{input, input_read, program, printed}
use Rattle.plan_input.proofs.NothingLost.{told, read_told}

-- what is printed by another name
pub puts_as : {W W' xs : List ℕ} {n : ℕ} (l : List ℕ) → W ≡ W' → Puts W l xs n → Puts W' l xs n
puts_as {W} {W'} {xs} {n} l e h = subst (λ w. Puts w l xs n) e h

-- by what was read, the program prints the plan of it or the refusal
pub program_is : (b : List ℕ) {o : Outcome Input} → o ≡ input_read (input b) → printed (and_then (told o) (plan 0)) ≡ program b
program_is b e = ap (λ o. printed (and_then o (plan 0))) (ap told e ∙ read_told b)

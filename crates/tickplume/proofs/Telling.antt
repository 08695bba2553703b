-- How a call of the face comes to what it must leave, where the lent list is long enough: what the call behind it came to is told; and a
-- refusal of that one fits a word.
-- Assumes nothing.
use Prim.Native.Nat.{ℕ, ◌≤◌}
use mathlib.Core.Path.{◌≡◌, sym, ap, ◌∙◌}
use mathlib.Core.List.{List}
use lib.ListN.{length}
use borrow.Author.Tests.{le-ltb}
use Rattle.std.specs.Prelude.{Result}
use Rattle.paper.specs.declared.Refusal.{Refusal}
use Rattle.paper.specs.Outcome.{Outcome, answer, and_then, outcome_of}
use Rattle.paper.specs.Face.{Tells, needing}
use Rattle.paper.proofs.Outcomes.{then_refused}
use Rattle.plan_laws.proofs.Listed.{Listed}
use Rattle.face_entries.specs.InWord.{InWord}

-- a refusal that is listed fits a word
pub in_word : {A : Type 0} {P : ℕ → Type 0} {o : Outcome A} {r : Result A Refusal} → Listed P o → outcome_of r ≡ o → InWord r
in_word l e x is = (l _ _ (sym e ∙ ap outcome_of is)).place

-- where the lent list is long enough, what the call came to is told
pub told : (n : ℕ) (lent : List ℕ) {word : ℕ} {after : List ℕ} {o o' : Outcome (List ℕ)} → n ≤ length lent → o ≡ o'
    → Tells o word lent after → Tells (needing n lent o') word lent after
told n lent h e t = rw (le-ltb (length lent) n h) (rw e at t)

-- ---- of a call that answers something of what it wrote

module _ {A B : Type 0} (f : A → B) (o : Outcome A) where
  -- it refuses what it wrote is refused with
  pub listed_of : {P : ℕ → Type 0} → Listed P o → Listed P (and_then o (λ a. answer (f a)))
  listed_of l n p e = l n p (then_refused o f n p e)

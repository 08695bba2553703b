-- What a dispatcher hands back says its outcome, so handing it over to the caller tells that outcome.
-- Assumes nothing.
use Prim.Native.Nat.{ℕ, ◌≤◌}
use mathlib.Core.Path.{sym, ap, ◌∙◌}
use mathlib.Core.List.{List}
use lib.ListN.{length}
use Rattle.paper.specs.declared.State.{State}
use Rattle.paper.specs.declared.Dispatched.{Dispatched}
use Rattle.paper.specs.Outcome.{Outcome, verdict_as}
use Rattle.paper.specs.Answers.{Hands}
use Rattle.paper.specs.Face.{Tells, entries, needing, state_entries}
use Rattle.plan_laws.proofs.Listed.{Listed}
use Rattle.face_entries.specs.InWord.{InWord}
use Rattle.tickplume.proofs.Telling.{told}

module _ {o : Outcome State} {r : Dispatched} (h : Hands o r) where
  -- a refusal that is listed fits a word
  pub hands_fits : {P : ℕ → Type 0} → Listed P o → InWord r.verdict
  hands_fits l x v = (l _ _ (sym h.said ∙ ap (λ w. verdict_as w r.state) v)).place

  -- what is told of the verdict and the state is told of the outcome
  pub hands_told : (n : ℕ) (lent : List ℕ) {word : ℕ} {after : List ℕ} → n ≤ length lent
      → Tells (entries state_entries (verdict_as r.verdict r.state)) word lent after
      → Tells (needing n lent (entries state_entries o)) word lent after
  hands_told n lent l t = told n lent l (ap (entries state_entries) h.said) t

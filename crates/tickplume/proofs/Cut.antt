-- What is asked by a lent state comes to the same whether its entries are cut to 32 bits or not: the rows of an accepted table are below
-- its engines, far below the cut; and bytes that are not accepted are refused before the state is looked at.
-- Assumes nothing.
use Prim.Native.Nat.{ℕ, ◌+◌, ◌<◌}
use mathlib.Core.Path.{◌≡◌, refl, ap, ◌∙◌}
use mathlib.Core.List.{List}
use native.Mathlib.Omega.{arith}
use lib.Dec.{ltb}
use lib.ListN.{get_or}
use borrow.Author.Tests.{ltb-true}
use Rattle.laws.specs.Choice.{pick}
use Rattle.laws.proofs.Cases.{by_cases}
use Rattle.paper.specs.declared.Row.{Row}
use Rattle.paper.specs.declared.Engine.{Engine}
use Rattle.paper.specs.Duties.{engine}
use Rattle.paper.specs.Words.{row, Table}
use Rattle.paper.specs.Rotation.{link, row_at}
use Rattle.paper.specs.Limits.{small, most_engines, no_row}
use Rattle.paper.specs.Outcome.{Outcome, refused, answer, and_then}
use Rattle.paper.specs.Rules.{accepted}
use Rattle.paper.specs.Statements.{Ranged}
use Rattle.paper.specs.declared.State.{State}
use Rattle.paper.specs.declared.Dispatched.{Dispatched}
use Rattle.paper.specs.Answers.{rows_at, Hands, is_state, row_told, advanced}
use Rattle.table_laws.proofs.AcceptedBytes.{accepted_ranged}
use Rattle.walk_laws.proofs.Page.{row_few}
use Rattle.paper.specs.Face.{state_in}
use Rattle.face_entries.specs.Cut.{cut_state}
use Rattle.tickplume.proofs.Narrowed.{entries_cut}

-- a row of a block is small
rows_small : (t : Table) → Ranged small t → (b e : ℕ) → (pick (ltb e t.engines) (row_at (link t) b (engine e)) (row 0)).0 < no_row
rows_small t g b e =
    by_cases (ltb e t.engines)
    (λ p. let below = row_few small t g b e (ltb-true e t.engines p) in
    rw p (omega (arith, below, g.engines_most)))
    (λ p. rw p (omega arith))

-- so the cut state is the one for its block where the state is
own_same : (t : Table) → Ranged small t → (l : List ℕ) → is_state (link t) t.engines (cut_state l)
    ≡ is_state (link t) t.engines (state_in l)
unfolding rows_at
own_same t g l =
    entries_cut most_engines (λ e. get_or l (e + 1) 0) (λ e. pick (ltb e t.engines) (row_at (link t) (get_or l 0 0) (engine e)) (row 0))
    (rows_small t g (get_or l 0 0))

-- what is asked of accepted bytes, where two ways to ask it come to the same for each table in range
asked_same : {A : Type 0} (b : List ℕ) (f g : Table → Outcome A) → ((t : Table) → Ranged small t → f t ≡ g t)
    → and_then (accepted b) f ≡ and_then (accepted b) g
asked_same {A} b f g same = go (accepted b) refl
  where
    go : (o : Outcome Table) → accepted b ≡ o → and_then o f ≡ and_then o g
    go (refused n p) e = refl
    go (answer t) e = same t (accepted_ranged b t e)

-- asked by the state that was taken: the row
pub row_asked : (b l : List ℕ) (e : Engine) {s : State} {o : Outcome Row} → s ≡ cut_state l → o ≡ row_told b s e
    → o ≡ row_told b (state_in l) e
row_asked b l e q h = h ∙ ap (λ s. row_told b s e) q ∙ asked_same b _ _ (λ t g. rw (own_same t g l))

-- the next state
pub next_asked : (b l : List ℕ) {s : State} {r : Dispatched} → s ≡ cut_state l → Hands (advanced b s) r → Hands (advanced b (state_in l)) r
next_asked b l q h =
    let z : advanced b (cut_state l) ≡ advanced b (state_in l) = asked_same b _ _ (λ t g. rw (own_same t g l)) in
    rw (ap (advanced b) q ∙ z) at h

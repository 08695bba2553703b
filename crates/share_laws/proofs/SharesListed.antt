-- The builder of shares and the direct question come to an answer or to a refusal whose number is listed for that call, and whose place is
-- within the bound on places: it is a duty or a block, of which there are few, or as many entries as few blocks of few duties have.
-- Assumes nothing.
use Prim.Native.Nat.{ℕ, ◌≤◌, ◌<◌}
use mathlib.Core.Path.{◌≡◌, refl, sym}
use mathlib.Core.Logic.{◌⊎◌, inl, inr}
use native.Mathlib.Nat.{mul-le-mul}
use native.Mathlib.Omega.{arith}
use Rattle.paper.specs.declared.Engine.{Engine}
use Rattle.paper.specs.Limits.{most_place, small, most_share_blocks}
use Rattle.paper.specs.Outcome.{Outcome, refused}
use Rattle.paper.specs.Wanted.{Wanted}
use Rattle.paper.specs.Sa2.{duty_count}
use Rattle.paper.specs.Shares.{blocks, share_schedule, entries_needed, share_plan, share_question}
use Rattle.paper.proofs.Outcomes.{answered, refused_one}
use Rattle.paper.proofs.Passed.{From}
use Rattle.plan_laws.proofs.Planned.{length_duties}
use Rattle.plan_laws.proofs.Listed.{InList, Listed, taken_listed}
use Rattle.share_laws.proofs.Blocks.{sharing_of}
use Rattle.share_laws.proofs.SharesWhen.{Sharable, WhenShared, not_taken, too_many_blocks, too_much, all_shared}
use Rattle.share_laws.proofs.SharesWhen.{WhenShares, not_shared_lem, list_short, block_bad, shares_given, shares_when}
use Rattle.share_laws.proofs.SharesWhen.{WhenAsked, nothing_shared, block_fails_lem, engine_out, answered_so, asked_when}

-- a refusal that is another is listed where that is
listed_as : {A : Type 0} (P : ℕ → Type 0) (n p k q : ℕ) → ◌≡◌ {A = Outcome A} (refused n p) (refused k q) → InList P k q → InList P n p
listed_as P n p k q e z = let r = refused_one n p k q e in rw (r.0, r.1) z

-- a number that is listed, with a place
placed : (P : ℕ → Type 0) (k q : ℕ) → P k → k < 256 → q ≤ most_place → InList P k q
placed P k q l b h = record { listed = l; byte = b; place = h }

-- 1 to 5, 22 and 7
when_shared_listed :
    (P : ℕ → Type 0) → ((k : ℕ) → From 1 5 k → P k) → P 22 → P 7 → (x : Wanted) (n p : ℕ) → WhenShared x (refused n p) → InList P n p
when_shared_listed P f many much x n p (not_taken k q h e) =
    let z = taken_listed x k q h in
    listed_as P n p k q e (placed P k q (f k z.listed) z.byte z.place)
when_shared_listed P f many much x n p (too_many_blocks e c h) = listed_as P n p 22 0 e (placed P 22 0 many (omega arith) (omega arith))
when_shared_listed P f many much x n p (too_much e c h g) = listed_as P n p 7 0 e (placed P 7 0 much (omega arith) (omega arith))
when_shared_listed P f many much x n p (all_shared e c) = answered (sharing_of x) n p (sym e)

-- there are few blocks, and so there are few entries
entries_few : (x : Wanted) → Sharable x → entries_needed (sharing_of x) ≤ most_place
entries_few x c =
    let s = sharing_of x in
    let few : duty_count s ≤ small.most_duties = omega (arith, length_duties x.services x.periods, c.taken.counts.duties) in
    omega (arith, mul-le-mul {n₂ = most_share_blocks} {m₂ = small.most_duties} c.few few)

block_few : (x : Wanted) (b : ℕ) → Sharable x → b < blocks (sharing_of x) → b ≤ most_place
block_few x b c h = omega (arith, c.few)

-- "1 to 5, 22, 7, 8 and 23" for the builder of shares
abbrev pub ShareNumber : ℕ → Type 0
ShareNumber n = From 1 5 n ⊎ (From 7 8 n ⊎ From 22 23 n)

pub shares_listed : (x : Wanted) (room : ℕ) → Listed ShareNumber (share_plan x room)
shares_listed x room n p h = go ((shares_when x room (refused n p)).0 h)
  where
    go : WhenShares x room (refused n p) → InList ShareNumber n p
    go (not_shared_lem k q w e) =
        listed_as ShareNumber n p k q e
        (when_shared_listed ShareNumber (λ j f. inl f) (inr (inr (omega arith))) (inr (inl (omega arith))) x k q w)
    go (list_short e c l) =
        let q = entries_needed (sharing_of x) in
        listed_as ShareNumber n p 8 q e (placed ShareNumber 8 q (inr (inl (omega arith))) (omega arith) (entries_few x c))
    go (block_bad b e c a l) =
        listed_as ShareNumber n p 23 b e (placed ShareNumber 23 b (inr (inr (omega arith))) (omega arith) (block_few x b c l.0))
    go (shares_given e c a g) = answered (sharing_of x) n p (sym e)

-- "all but 8, then 18" for the question
abbrev pub QuestionNumber : ℕ → Type 0
QuestionNumber n = From 1 5 n ⊎ ((n ≡ 7) ⊎ ((n ≡ 18) ⊎ From 22 23 n))

pub share_question_listed : (x : Wanted) (e : Engine) (k : ℕ) → Listed QuestionNumber (share_question x e k)
share_question_listed x e k n p h = go ((asked_when x e k (refused n p)).0 h)
  where
    go : WhenAsked x e k (refused n p) → InList QuestionNumber n p
    go (nothing_shared j q w d) =
        listed_as QuestionNumber n p j q d
        (when_shared_listed QuestionNumber (λ j f. inl f) (inr (inr (inr (omega arith)))) (inr (inl refl)) x j q w)
    go (block_fails_lem b d c l) =
        listed_as QuestionNumber n p 23 b d
        (placed QuestionNumber 23 b (inr (inr (inr (omega arith)))) (omega arith) (block_few x b c l.0))
    go (engine_out d c g m) =
        listed_as QuestionNumber n p 18 0 d (placed QuestionNumber 18 0 (inr (inr (inl refl))) (omega arith) (omega arith))
    go (answered_so d c g m) = answered (share_schedule (sharing_of x) e k) n p (sym d)

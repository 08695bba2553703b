-- When there is a plan of shares, when there is an answer to the question, and when which refusal. Each test decides one of the document's
-- conditions, and they are gone through in order, so each outcome comes about exactly where the earlier conditions are clear and its own
-- holds.
-- Assumes nothing.
use Prim.Native.Nat.{ℕ, ◌*◌, ◌≤◌, ◌<◌}
use mathlib.Core.Path.{◌≡◌, refl, sym, ap, ◌∙◌}
use mathlib.Core.List.{List}
use mathlib.Core.Logic.{◌↔◌}
use lib.Dec.{ltb}
use borrow.Author.Tests.{lt-ltb, le-ltb, ltb-true, ltb-false}
use Rattle.laws.specs.Choice.{pick}
use Rattle.laws.proofs.Cases.{by_cases}
use Rattle.paper.specs.declared.Duty.{Duty}
use Rattle.paper.specs.declared.Engine.{Engine}
use Rattle.paper.specs.Duties.{Held, asked_in}
use Rattle.paper.specs.Words.{block_length_of}
use Rattle.paper.specs.Outcome.{Outcome, refused, answer, and_then}
use Rattle.paper.specs.Wanted.{Wanted, duty_set, taken}
use Rattle.paper.specs.Sa2.{Sharing, sharing}
use Rattle.paper.specs.Limits.{most_share_blocks}
use Rattle.paper.specs.Shares.{common, blocks, share_schedule, overloaded, failing, sharable, shared}
use Rattle.paper.specs.Shares.{entries_needed, roomy, steady, share_plan, share_question}
use Rattle.paper.proofs.Outcomes.{answered, answer_one, past}
use Rattle.plan_laws.proofs.TakenWhen.{Taken, takes, taken_told}
use Rattle.share_laws.proofs.Blocks.{sharing_of}
use Rattle.share_laws.proofs.GoodBlocks.{AllGood, LowestBad, failing_lowest, lowest_failing, none_failing}

-- ---- the conditions

-- what the duties ask for up to the common multiple
abbrev pub asked_for : Wanted → ℕ
asked_for x = asked_in (common (sharing_of x)) (duty_set x)

-- none of 1 to 5, 22 and 7
pub record Sharable (x : Wanted) : Type 0 where
  pub taken : Taken x
  pub few : blocks (sharing_of x) ≤ most_share_blocks
  pub fit : asked_for x ≤ x.engines * common (sharing_of x)

-- "No.", "When" and "Place" of refusals 22 and 7, which come after 1 to 5, and when there are blocks to share out
pub data WhenShared (x : Wanted) (o : Outcome Sharing) : Type 0 where
  -- 1 to 5
  not_taken : (n p : ℕ) → taken x ≡ refused n p → o ≡ refused n p → WhenShared x o
  -- 22 more than 4,096 blocks up to the common multiple
  too_many_blocks : o ≡ refused 22 0 → Taken x → most_share_blocks < blocks (sharing_of x) → WhenShared x o
  -- 7 the sum of C/D is above the engines
  too_much :
      o ≡ refused 7 0 → Taken x → blocks (sharing_of x) ≤ most_share_blocks → x.engines * common (sharing_of x) < asked_for x
      → WhenShared x o
  -- else the blocks
  all_shared : o ≡ answer (sharing_of x) → Sharable x → WhenShared x o

-- "No.", "When" and "Place" of refusals 8 and 23, which come after 1 to 5, 22 and 7, and when there is a plan
pub data WhenShares (x : Wanted) (room : ℕ) (o : Outcome Sharing) : Type 0 where
  -- 1 to 5, 22 and 7
  not_shared_lem : (n p : ℕ) → WhenShared x (refused n p) → o ≡ refused n p → WhenShares x room o
  -- 8 the lent list too short, at the entries needed
  list_short : o ≡ refused 8 (entries_needed (sharing_of x)) → Sharable x → room < entries_needed (sharing_of x) → WhenShares x room o
  -- 23 a block that is not good, at the first such block
  block_bad : (b : ℕ) → o ≡ refused 23 b → Sharable x → entries_needed (sharing_of x) ≤ room → LowestBad (sharing_of x) b
      → WhenShares x room o
  -- else the plan
  shares_given : o ≡ answer (sharing_of x) → Sharable x → entries_needed (sharing_of x) ≤ room → AllGood (sharing_of x)
      → WhenShares x room o

-- "No.", "When" and "Place" of refusals 23 and 18, which come after 1 to 5, 22 and 7, and when there is an answer
pub data WhenAsked (x : Wanted) (e : Engine) (k : ℕ) (o : Outcome Held) : Type 0 where
  -- 1 to 5, 22 and 7
  nothing_shared : (n p : ℕ) → WhenShared x (refused n p) → o ≡ refused n p → WhenAsked x e k o
  -- 23 a block that is not good, at the first such block
  block_fails_lem : (b : ℕ) → o ≡ refused 23 b → Sharable x → LowestBad (sharing_of x) b → WhenAsked x e k o
  -- 18 no such engine
  engine_out : o ≡ refused 18 0 → Sharable x → AllGood (sharing_of x) → x.engines ≤ e.0 → WhenAsked x e k o
  -- else what the engine has at the tick
  answered_so : o ≡ answer (share_schedule (sharing_of x) e k) → Sharable x → AllGood (sharing_of x) → e.0 < x.engines → WhenAsked x e k o

-- ---- 23

module _ (s : Sharing) where
  -- a block that is not good is met first
  steady_bad : (b : ℕ) → LowestBad s b → steady s ≡ refused 23 b
  steady_bad b l = rw (lowest_failing s b l, lt-ltb b (blocks s) l.0)

  -- where all are good nothing is refused, and only there
  steady_good : AllGood s → steady s ≡ answer s
  steady_good g = rw ((none_failing s).1 g)

  pub steady_when : (steady s ≡ answer s) ↔ AllGood s
  steady_when = ((λ h. (none_failing s).0 (past (ltb (failing s) (blocks s)) 23 (failing s) (answer s) s h).0), steady_good)

  -- one or the other
  steady_cases : {P : Type 0} → ((b : ℕ) → steady s ≡ refused 23 b → LowestBad s b → P) → (steady s ≡ answer s → AllGood s → P) → P
  steady_cases f g =
      by_cases (ltb (failing s) (blocks s))
      (λ h. let l = failing_lowest s h in f (failing s) (steady_bad (failing s) l) l)
      (λ h. let a = (none_failing s).0 h in g (steady_good a) a)

-- ---- one outcome for one condition

module _ (x : Wanted) where
  abbrev s : Sharing
  s = sharing_of x

  -- what comes after 5
  after_taken : (o : Outcome Sharing) → Taken x → o ≡ sharable s → WhenShared x o
  unfolding sharable overloaded
  after_taken o c q =
      by_cases (ltb most_share_blocks (blocks s))
      (λ h. too_many_blocks (q ∙ rw h) c (ltb-true most_share_blocks (blocks s) h))
      (λ h.
      let few = ltb-false most_share_blocks (blocks s) h in
      by_cases (ltb (x.engines * common s) (asked_for x))
      (λ k. too_much (q ∙ rw (h, k)) c few (ltb-true (x.engines * common s) (asked_for x) k))
      (λ k. all_shared (q ∙ rw (h, k)) (record { taken = c; few = few; fit = ltb-false (x.engines * common s) (asked_for x) k })))

  -- every outcome has its condition, ..
  shared_tells : (o : Outcome Sharing) → shared x ≡ o → WhenShared x o
  shared_tells o = go (taken x) refl
    where
      go : (y : Outcome (List Duty)) → taken x ≡ y → and_then y (λ l. sharable (sharing (block_length_of l) x.engines l)) ≡ o
          → WhenShared x o
      go (refused n p) e q = not_taken n p e (sym q)
      go (answer l) e q =
          let z = taken_told x l e in
          after_taken o z.0 (sym q ∙ ap (λ (k : List Duty). sharable (sharing (block_length_of k) x.engines k)) z.1)

  -- past 5 there are the block length and the blocks
  past_taken : Taken x → shared x ≡ sharable s
  past_taken c = rw (takes x c)

  -- .. and comes about where that holds
  told_shared : (o : Outcome Sharing) → WhenShared x o → shared x ≡ o
  unfolding sharable overloaded
  told_shared o (not_taken n p h q) = rw h (sym q)
  told_shared o (too_many_blocks q c h) = past_taken c ∙ rw (lt-ltb most_share_blocks (blocks s) h) (sym q)
  told_shared o (too_much q c f h) =
      past_taken c ∙ rw (le-ltb most_share_blocks (blocks s) f, lt-ltb (x.engines * common s) (asked_for x) h) (sym q)
  told_shared o (all_shared q c) =
      past_taken c.taken ∙ rw (le-ltb most_share_blocks (blocks s) c.few, le-ltb (x.engines * common s) (asked_for x) c.fit) (sym q)

  pub shared_when : (o : Outcome Sharing) → (shared x ≡ o) ↔ WhenShared x o
  shared_when o = (shared_tells o, told_shared o)

  -- what is shared out is of the duties that are wanted, and none of 1 to 5, 22 and 7 applies
  pub shared_told : (r : Sharing) → shared x ≡ answer r → Sharable x × (r ≡ s)
  shared_told r h = go (shared_tells (answer r) h)
    where
      go : WhenShared x (answer r) → Sharable x × (r ≡ s)
      go (not_taken n p h q) = answered r n p q
      go (too_many_blocks q c h) = answered r 22 0 q
      go (too_much q c f h) = answered r 7 0 q
      go (all_shared q c) = (c, answer_one r s q)

  pub shares : Sharable x → shared x ≡ answer s
  shares c = told_shared (answer s) (all_shared refl c)

  -- ---- the builder of shares

  module _ (room : ℕ) where
    -- what comes after 7
    after_shared : (o : Outcome Sharing) → Sharable x → o ≡ and_then (roomy room s) steady → WhenShares x room o
    after_shared o c q =
        by_cases (ltb room (entries_needed s))
        (λ h. list_short (q ∙ rw h) c (ltb-true room (entries_needed s) h))
        (λ h.
        let a = ltb-false room (entries_needed s) h in
        steady_cases s (λ b k l. block_bad b (q ∙ rw h k) c a l) (λ k g. shares_given (q ∙ rw h k) c a g))

    -- every outcome has its condition, ..
    shares_tells : (o : Outcome Sharing) → share_plan x room ≡ o → WhenShares x room o
    shares_tells o = go (shared x) refl
      where
        go : (y : Outcome Sharing) → shared x ≡ y → and_then (and_then y (roomy room)) steady ≡ o → WhenShares x room o
        go (refused n p) e q = not_shared_lem n p ((shared_when (refused n p)).0 e) (sym q)
        go (answer r) e q =
            let z = shared_told r e in
            after_shared o z.0 (sym q ∙ ap (λ (k : Sharing). and_then (roomy room k) steady) z.1)

    -- past 7 there is the list, and past 8 there are the blocks
    past_room : Sharable x → entries_needed s ≤ room → share_plan x room ≡ steady s
    past_room c a = rw (shares c, le-ltb room (entries_needed s) a)

    -- .. and comes about where that holds
    told_shares : (o : Outcome Sharing) → WhenShares x room o → share_plan x room ≡ o
    told_shares o (not_shared_lem n p h q) = rw ((shared_when (refused n p)).1 h) (sym q)
    told_shares o (list_short q c h) = rw (shares c, lt-ltb room (entries_needed s) h) (sym q)
    told_shares o (block_bad b q c a l) = past_room c a ∙ steady_bad s b l ∙ sym q
    told_shares o (shares_given q c a g) = past_room c a ∙ steady_good s g ∙ sym q

    -- the outcome is the one whose condition holds
    pub shares_when : (o : Outcome Sharing) → (share_plan x room ≡ o) ↔ WhenShares x room o
    shares_when o = (shares_tells o, told_shares o)

  -- ---- the direct question

  module _ (e : Engine) (k : ℕ) where
    -- what is told of a plan
    abbrev told : Sharing → Outcome Held
    told r = pick (ltb e.0 r.engines) (answer (share_schedule r e k)) (refused 18 0)

    -- what comes after 7
    after_sharing : (o : Outcome Held) → Sharable x → o ≡ and_then (steady s) told → WhenAsked x e k o
    after_sharing o c q =
        steady_cases s (λ b h l. block_fails_lem b (q ∙ rw h) c l)
        (λ h g. by_cases (ltb e.0 x.engines)
        (λ a. answered_so (q ∙ rw (h, a)) c g (ltb-true e.0 x.engines a))
        (λ a. engine_out (q ∙ rw (h, a)) c g (ltb-false e.0 x.engines a)))

    -- every outcome has its condition, ..
    asked_tells : (o : Outcome Held) → share_question x e k ≡ o → WhenAsked x e k o
    asked_tells o = go (shared x) refl
      where
        go : (y : Outcome Sharing) → shared x ≡ y → and_then (and_then y steady) told ≡ o → WhenAsked x e k o
        go (refused n p) h q = nothing_shared n p ((shared_when (refused n p)).0 h) (sym q)
        go (answer r) h q =
            let z = shared_told r h in
            after_sharing o z.0 (sym q ∙ ap (λ (j : Sharing). and_then (steady j) told) z.1)

    -- .. and comes about where that holds
    told_asked : (o : Outcome Held) → WhenAsked x e k o → share_question x e k ≡ o
    told_asked o (nothing_shared n p h q) = rw ((shared_when (refused n p)).1 h) (sym q)
    told_asked o (block_fails_lem b q c l) = rw (shares c, steady_bad s b l) (sym q)
    told_asked o (engine_out q c g a) = rw (shares c, steady_good s g, le-ltb e.0 x.engines a) (sym q)
    told_asked o (answered_so q c g a) = rw (shares c, steady_good s g, lt-ltb e.0 x.engines a) (sym q)

    pub asked_when : (o : Outcome Held) → (share_question x e k ≡ o) ↔ WhenAsked x e k o
    asked_when o = (asked_tells o, told_asked o)

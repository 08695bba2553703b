-- Where the builder of shares gives 7, no schedule whatever meets the duties: up to the periods' common multiple they ask for more ticks
-- than the engines have, which is what 7 looks at. Where it gives a plan, the plan's own schedule meets them.
-- Assumes nothing.
use Prim.Native.Nat.{ℕ, ◌≤◌}
use mathlib.Core.Path.{◌≡◌, sym}
use native.Mathlib.Nat.{mul-le-mul_right}
use native.Mathlib.Omega.{arith}
use Rattle.paper.specs.declared.Engine.{Engine}
use Rattle.paper.specs.Capacity.{MeetsDuties, Possible}
use Rattle.paper.specs.Outcome.{refused, answer}
use Rattle.paper.specs.Wanted.{Wanted, duty_set}
use Rattle.paper.specs.Sa2.{Sharing}
use Rattle.paper.specs.Shares.{common, share_schedule, entries_needed, share_plan, share_question}
use Rattle.paper.proofs.Outcomes.{answered, refused_one, refused_apart}
use Rattle.paper.proofs.Capacity.{meets_most, exactly_meets}
use Rattle.plan_laws.proofs.Listed.{taken_listed}
use Rattle.share_laws.proofs.Blocks.{sharing_of, common_divided}
use Rattle.share_laws.proofs.SharesWhen.{WhenShared, not_taken, too_many_blocks, too_much, all_shared}
use Rattle.share_laws.proofs.SharesWhen.{WhenShares, not_shared_lem, list_short, block_bad, shares_given, shares_when}
use Rattle.share_laws.proofs.SharesWhen.{WhenAsked, nothing_shared, block_fails_lem, engine_out, answered_so, asked_when}
use Rattle.share_laws.proofs.Served.{Serves, plan-told, plan-serves, question-serves}
use Rattle.paper.specs.Duties.{Held}

-- ---- 7

-- on so many engines, or on fewer, nothing meets the duties
module _ (x : Wanted) (k : ℕ) (few : k ≤ x.engines) (y : Possible k (duty_set x)) where
  shared_impossible : (n p : ℕ) → 7 ≡ n → WhenShared x (refused n p) → ⊥
  shared_impossible n p e (not_taken a b f g) = refused_apart n p a b (λ d. omega (arith, (taken_listed x a b f).listed)) g
  shared_impossible n p e (too_many_blocks g c l) = refused_apart n p 22 0 (λ d. omega arith) g
  shared_impossible n p e (too_much g c f l) =
      let h = common (sharing_of x) in
      omega (arith, meets_most k (duty_set x) y.schedule y.meets h (common_divided (sharing_of x)), mul-le-mul_right h few, l)
  shared_impossible n p e (all_shared g f) = answered _ n p (sym g)

  -- where the builder of shares gives it, ..
  pub shares_impossible : (room p : ℕ) → share_plan x room ≡ refused 7 p → ⊥
  shares_impossible room p h = go ((shares_when x room (refused 7 p)).0 h)
    where
      go : WhenShares x room (refused 7 p) → ⊥
      go (not_shared_lem n q f e) = shared_impossible n q (refused_one 7 p n q e).0 f
      go (list_short e f l) = refused_apart 7 p 8 (entries_needed (sharing_of x)) (λ d. omega arith) e
      go (block_bad b e f a g) = refused_apart 7 p 23 b (λ d. omega arith) e
      go (shares_given e f a g) = answered (sharing_of x) 7 p (sym e)

  -- .. and where its question does
  pub question_impossible : (e : Engine) (j p : ℕ) → share_question x e j ≡ refused 7 p → ⊥
  question_impossible e j p h = go ((asked_when x e j (refused 7 p)).0 h)
    where
      go : WhenAsked x e j (refused 7 p) → ⊥
      go (nothing_shared n q f g) = shared_impossible n q (refused_one 7 p n q g).0 f
      go (block_fails_lem b g f l) = refused_apart 7 p 23 b (λ d. omega arith) g
      go (engine_out g f a l) = refused_apart 7 p 18 0 (λ d. omega arith) g
      go (answered_so g f a l) = answered (share_schedule (sharing_of x) e j) 7 p (sym g)

-- ---- a plan

serves_meets : (s : Sharing) → Serves s → MeetsDuties s.engines s.duties (share_schedule s)
serves_meets s v = exactly_meets s.engines s.duties (share_schedule s) v.once v.jobs

-- that is given, ..
pub shares_meet :
    (x : Wanted) (room : ℕ) (s : Sharing) → share_plan x room ≡ answer s → MeetsDuties x.engines (duty_set x) (share_schedule s)
shares_meet x room s h =
    rw (plan-told x room s h).0 (serves_meets (sharing_of x) (rw (plan-told x room s h).0 at (plan-serves x room s h)))

-- .. or asked
pub question_meets :
    (x : Wanted) (e : Engine) (k : ℕ) (a : Held) → share_question x e k ≡ answer a
    → MeetsDuties x.engines (duty_set x) (share_schedule (sharing_of x))
question_meets x e k a h = serves_meets (sharing_of x) (question-serves x e k a h)

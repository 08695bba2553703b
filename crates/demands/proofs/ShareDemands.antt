-- Plans of shares (document 02, request 3), as theorems on the definitions, each a citation. "Demand 2's service rule holds for every plan
-- given. Demand 3 reads without rotation: the direct question here takes engines and duties, and equals laying out each block in turn,
-- repeating after the common multiple."
-- Assumes nothing.
use Prim.Native.Nat.{ℕ, ◌+◌, ◌*◌, ◌/◌, ◌%◌, ◌≤◌, ◌<◌}
use mathlib.Core.Path.{◌≡◌, refl}
use mathlib.Core.Bool.{true, false}
use mathlib.Core.Logic.{◌↔◌}
use lib.ListN.{length}
use Rattle.laws.proofs.Search.{Clear}
use Rattle.paper.specs.declared.Engine.{Engine}
use Rattle.paper.specs.Duties.{Held, job_start}
use Rattle.paper.specs.Words.{row, held_in}
use Rattle.paper.specs.Schedule.{given, served}
use Rattle.paper.specs.Outcome.{Outcome, answer}
use Rattle.paper.specs.Wanted.{Wanted}
use Rattle.paper.specs.Sa2.{Sharing, duty_count, duty_of, share_of, raised_units, needs_at, laid_out}
use Rattle.paper.specs.Shares.{blocks, share_schedule, off_range, off_service, block_fails, share_plan, share_question}
use Rattle.paper.specs.ShareCases.{Condition33, Condition34, HoldsShares, share_cases, share_case_at}
use Rattle.plan_laws.proofs.Listed.{Listed}
use Rattle.share_laws.proofs.Steps.{need_of, had_to, Enough, InBlocks, need_closed, need_least}
use Rattle.share_laws.proofs.ShortWhen.{never_above, service_not_alone}
use Rattle.share_laws.proofs.Blocks.{sharing_of}
use Rattle.share_laws.proofs.SharesWhen.{WhenShares, shares_when, WhenAsked, asked_when}
use Rattle.share_laws.proofs.Served.{plan-serves, plan-told, share_again, question-told}
use Rattle.share_laws.proofs.SharesListed.{ShareNumber, shares_listed, QuestionNumber, share_question_listed}
use Rattle.share_laws.proofs.ShareCasesHold.{share_cases_hold, not_33, not_34}

-- ---- Demand 1: refusals are listed

pub share_refusals_listed :
    ((x : Wanted) (room : ℕ) → Listed ShareNumber (share_plan x room))
    × ((x : Wanted) (e : Engine) (k : ℕ) → Listed QuestionNumber (share_question x e k))
share_refusals_listed = (shares_listed, share_question_listed)

-- when there is a plan and when which refusal, and the same for the question
pub shares_exactly : (x : Wanted) (room : ℕ) (o : Outcome Sharing) → (share_plan x room ≡ o) ↔ WhenShares x room o
shares_exactly = shares_when

pub share_question_exactly : (x : Wanted) (e : Engine) (k : ℕ) (o : Outcome Held) → (share_question x e k ≡ o) ↔ WhenAsked x e k o
share_question_exactly = asked_when

-- ---- Demand 2: service

module _ (x : Wanted) (room : ℕ) (s : Sharing) (h : share_plan x room ≡ answer s) where
  -- every job of every duty gets exactly its service in its own period, for ever
  pub share_jobs_served :
      (i q : ℕ) → i < duty_count s
      → served s.engines (share_schedule s) i (job_start (duty_of s i) q) (duty_of s i).period ≡ (duty_of s i).service
  share_jobs_served = (plan-serves x room s h).jobs

  -- on one engine at a time. (And an engine runs one duty at most: a schedule is a function.)
  pub share_not_twice : (i k : ℕ) → i < duty_count s → given s.engines (share_schedule s) i k ≤ 1
  share_not_twice = (plan-serves x room s h).once

  -- it is the plan of what is wanted, and it repeats after the common multiple
  pub share_is_wanted : s ≡ sharing_of x
  share_is_wanted = (plan-told x room s h).0

  pub share_repeats : (e : Engine) (k : ℕ) → share_schedule s e (k + blocks s * s.ticks) ≡ share_schedule s e k
  share_repeats = share_again s (plan-told x room s h).1

-- ---- Demand 3: the question is the laying out

-- each block in turn by SA1, engine i keeping row i
pub share_lays_out :
    (s : Sharing) (e : Engine) (k : ℕ) → share_schedule s e k ≡ held_in (laid_out s (k / s.ticks % blocks s)) (row e.0) (k % s.ticks)
unfolding share_schedule
share_lays_out s e k = refl

-- what the question answers
pub share_question_lays_out :
    (x : Wanted) (e : Engine) (k : ℕ) (a : Held) → share_question x e k ≡ answer a → a ≡ share_schedule (sharing_of x) e k
share_question_lays_out x e k a h = (question-told x e k a h).0

-- ---- the need, and the causes of 23

-- (b + 1) shares, less what the duty had before: raised by 1, in D-ths, as long as it had no -1 units
pub need_is :
    (s : Sharing) (i : ℕ) → i < duty_count s → (b : ℕ) → Enough s b i
    → (duty_of s i).period * had_to s b i + need_of s b i ≡ (b + 1) * share_of s i + (duty_of s i).period
need_is = need_closed

-- it is never down to -1
pub need_above : (s : Sharing) (i : ℕ) → i < duty_count s → (b : ℕ) → 0 < (duty_of s i).period → 1 ≤ need_of s b i
need_above = need_least

-- units are out of range only where they are -1, never above T; and a job that ends is other than its service only where the duty has -1
-- units or an earlier block fails: these two causes never come up alone
pub above_never :
    (s : Sharing) → InBlocks s → (b i : ℕ) → i < duty_count s → off_range s b i ≡ true → raised_units s (needs_at s b) i ≡ 0
above_never = never_above

pub service_never_alone :
    (s : Sharing) → InBlocks s → (b i : ℕ) → i < duty_count s → Clear (block_fails s) b → 1 ≤ raised_units s (needs_at s b) i
    → off_service s b i ≡ false
service_never_alone = service_not_alone

-- ---- 004 put right

-- its theorems 3.3 and 3.4 do not hold as they are printed
pub theorem_33_fails : ((s : Sharing) → Condition33 s → Clear (block_fails s) (blocks s)) → ⊥
theorem_33_fails = not_33

pub theorem_34_fails : ((s : Sharing) → Condition34 s → Clear (block_fails s) (blocks s)) → ⊥
theorem_34_fails = not_34

-- table 3, the refusals in their order, and the sets against the two theorems
pub sets_hold : (i : ℕ) → i < length share_cases → HoldsShares (share_case_at i)
sets_hold = share_cases_hold

-- What a plan of shares that is given serves, for ever. Its blocks are good, and each is laid out by SA1 on its own line: so a duty is on
-- one engine at most in a tick, and over a block it gets what it is allotted. A period is a whole number n of blocks, and n divides the
-- number of blocks up to the common multiple, after which the allotments begin again. So job q has the blocks of job q mod z, where z is
-- how many jobs of the duty there are up to the common multiple. That job ends with a good block, so it has had its service.
-- Assumes nothing.
use Prim.Native.Nat.{ℕ, ◌+◌, ◌*◌, ◌-◌, ◌/◌, ◌%◌, ◌≤◌, ◌<◌, ◌∣◌}
use mathlib.Core.Path.{◌≡◌, refl, sym, ap, ◌∙◌}
use native.Mathlib.Nat.{mul_assoc, mul-le-mul_right, mod-lt, add-mod_right, add-mul-mod_self_right, add-mul-div_right, div-mul_cancel}
use native.Mathlib.Nat.{dvd-mul_left, dvd-mul_right, dvd_of_mul-dvd-mul_right, pos_of_dvd_of_pos}
use native.Mathlib.Omega.{arith}
use lib.Arith.{digits_div, digits_mod, mod-mul}
use lib.ListN.{length}
use Rattle.laws.specs.Sum.{sum_to}
use Rattle.laws.proofs.Sum.{sum_ext, sum_blocks}
use Rattle.paper.specs.declared.Engine.{Engine}
use Rattle.paper.specs.Duties.{Held, job_start}
use Rattle.paper.specs.Schedule.{given, served}
use Rattle.paper.specs.Outcome.{answer}
use Rattle.paper.specs.Wanted.{Wanted}
use Rattle.paper.specs.Sa2.{Sharing, duty_count, duty_of, allotments, laid_out}
use Rattle.paper.specs.Shares.{blocks, share_schedule, job_units, shared, entries_needed, steady, share_plan, share_question}
use Rattle.paper.proofs.Outcomes.{answered, answer_one}
use Rattle.plan_laws.proofs.Line.{rows_held, laid_once, laid_all}
use Rattle.share_laws.proofs.Steps.{period_of, units_in, InBlocks}
use Rattle.share_laws.proofs.OnLine.{allotments-length, allotments_most}
use Rattle.share_laws.proofs.Blocks.{sharing_of, taken_some, taken_in_blocks, blocks_some, blocks_divided}
use Rattle.share_laws.proofs.GoodBlocks.{AllGood}
use Rattle.share_laws.proofs.SharesWhen.{Sharable, shared_told, steady_when, WhenShares, not_shared_lem, list_short, block_bad}
use Rattle.share_laws.proofs.SharesWhen.{shares_given, shares_when}
use Rattle.share_laws.proofs.SharesWhen.{WhenAsked, nothing_shared, block_fails_lem, engine_out, answered_so, asked_when}

-- what is known of a plan that is given: whole periods of blocks, up to a common multiple, and every block good
pub record Lasting (s : Sharing) : Type 0 where
  pub in_blocks : InBlocks s
  pub blocks_least : 0 < blocks s
  pub periods_whole : (i : ℕ) → i < duty_count s → period_of s i ∣ blocks s * s.ticks
  pub all_good : AllGood s

-- on how many engines duty i is at a tick: on how many rows of its block it holds the unit
given_rows :
    (s : Sharing) (i k : ℕ)
    → given s.engines (share_schedule s) i k ≡ rows_held s.ticks s.engines (allotments s (k / s.ticks % blocks s)) i (k % s.ticks)
unfolding given share_schedule laid_out
given_rows s i k = refl

-- duty i is among the allotments of a block
among : (s : Sharing) (i b : ℕ) → i < duty_count s → i < length (allotments s b)
among s i b l = rw (allotments-length s b) l

-- it is never on two engines at once, good blocks or not
pub share_once : (s : Sharing) → InBlocks s → (i k : ℕ) → i < duty_count s → given s.engines (share_schedule s) i k ≤ 1
share_once s c i k l =
    let t = s.ticks in
    let b = k / t % blocks s in
    rw (given_rows s i k)
    (laid_once t (allotments s b) (allotments_most s c.ranges b) i (among s i b l) s.engines (k % t) (mod-lt k c.ticks_some))

module _ (s : Sharing) (c : Lasting s) (i : ℕ) (l : i < duty_count s) where
  -- in block b it gets what it is allotted in that block, after so many common multiples
  block_served : (b : ℕ) → sum_to s.ticks (λ u. given s.engines (share_schedule s) i (b * s.ticks + u)) ≡ units_in s (b % blocks s) i
  block_served b =
      let t = s.ticks in
      let ns = allotments s (b % blocks s) in
      sum_ext t (λ u. given s.engines (share_schedule s) i (b * t + u)) (rows_held t s.engines ns i)
      (λ u h. given_rows s i (b * t + u) ∙ rw (digits_div b h, digits_mod b h))
      ∙ laid_all t ns (allotments_most s c.in_blocks.ranges (b % blocks s)) i (among s i (b % blocks s) l) s.engines
      (c.all_good (b % blocks s) (mod-lt b c.blocks_least)).fits

  -- ---- the blocks of a job

  -- how many a job has, and how many jobs there are up to the common multiple
  abbrev n : ℕ
  n = period_of s i / s.ticks

  abbrev z : ℕ
  z = blocks s / n

  -- these are whole numbers, and not 0
  period_blocks : n * s.ticks ≡ period_of s i
  period_blocks = div-mul_cancel s.ticks (c.in_blocks.ticks_divides i l)

  jobs_blocks : z * n ≡ blocks s
  jobs_blocks = div-mul_cancel n (dvd_of_mul-dvd-mul_right n c.in_blocks.ticks_some (rw period_blocks (c.periods_whole i l)))

  n_some : 0 < n
  n_some = pos_of_dvd_of_pos (rw jobs_blocks at (dvd-mul_left n z)) c.blocks_least

  z_some : 0 < z
  z_some = pos_of_dvd_of_pos (rw jobs_blocks at (dvd-mul_right z n)) c.blocks_least

  -- block j of job q is block j of job q mod z
  job_again : (q j : ℕ) → j < n → (q * n + j) % blocks s ≡ q % z * n + j
  job_again q j h =
      ap (λ (k : ℕ). (q * n + j) % k) (sym jobs_blocks)
      ∙ mod-mul (q * n + j) z_some n_some
      ∙ rw (digits_div q h, digits_mod q h)

  -- a job up to the common multiple ends with a good block, so it is allotted its service
  job_allotted : (q : ℕ) → q < z → sum_to n (λ j. units_in s (q * n + j) i) ≡ (duty_of s i).service
  unfolding job_units
  job_allotted q h =
      let b = q * n + n - 1 in
      let last : b + 1 ≡ (q + 1) * n = omega (arith, n_some) in
      let inside : b < blocks s = omega (arith, last, mul-le-mul_right n h, jobs_blocks) in
      let ends : (b + 1) * s.ticks ≡ (q + 1) * period_of s i =
      ap (λ (k : ℕ). k * s.ticks) last ∙ mul_assoc (q + 1) n s.ticks ∙ ap (λ (k : ℕ). (q + 1) * k) period_blocks in
      let start : b + 1 - n ≡ q * n = omega (arith, last) in
      rw start at ((c.all_good b inside).jobs_served i l (rw ends (dvd-mul_left (period_of s i) (q + 1))))

  -- every job gets exactly its service
  pub share_served : (q : ℕ) → served s.engines (share_schedule s) i (job_start (duty_of s i) q) (period_of s i) ≡ (duty_of s i).service
  unfolding served
  share_served q =
      let t = s.ticks in
      let on : ℕ → ℕ = given s.engines (share_schedule s) i in
      let first = job_start (duty_of s i) q in
      let place : (j u : ℕ) → first + (j * t + u) ≡ (q * n + j) * t + u =
      λ j u. omega (arith, mul_assoc q n t, ap (λ (k : ℕ). q * k) period_blocks) in
      ap (λ (k : ℕ). sum_to k (λ j. on (first + j))) (sym period_blocks)
      ∙ sum_blocks n t (λ j. on (first + j))
      ∙ sum_ext n (λ j. sum_to t (λ u. on (first + (j * t + u)))) (λ j. units_in s (q % z * n + j) i)
      (λ j h. sum_ext t (λ u. on (first + (j * t + u))) (λ u. on ((q * n + j) * t + u)) (λ u g. ap on (place j u))
      ∙ block_served (q * n + j)
      ∙ ap (λ (b : ℕ). units_in s b i) (job_again q j h))
      ∙ job_allotted (q % z) (mod-lt q z_some)

-- ---- a plan that is given

-- what was asked for: no duty on two engines at once, and every job's service, whatever the tick and the job
pub record Serves (s : Sharing) : Type 0 where
  pub once : (i k : ℕ) → i < duty_count s → given s.engines (share_schedule s) i k ≤ 1
  pub jobs : (i q : ℕ) → i < duty_count s → served s.engines (share_schedule s) i (job_start (duty_of s i) q) (period_of s i)
      ≡ (duty_of s i).service

pub lasting_serves : (s : Sharing) → Lasting s → Serves s
lasting_serves s c = record { once = share_once s c.in_blocks; jobs = λ i q l. share_served s c i l q }

-- "repeating after the common multiple": the allotments do by definition, and so do the engines
pub share_again : (s : Sharing) → Lasting s → (e : Engine) (k : ℕ) → share_schedule s e (k + blocks s * s.ticks) ≡ share_schedule s e k
unfolding share_schedule
share_again s c e k =
    rw (
      add-mul-div_right k (blocks s) c.in_blocks.ticks_some,
      add-mul-mod_self_right k (blocks s) s.ticks,
      add-mod_right
          (k / s.ticks) (blocks s),
    )

-- duties that are taken, shared out into good blocks
pub sharable_lasting : (x : Wanted) → Sharable x → AllGood (sharing_of x) → Lasting (sharing_of x)
sharable_lasting x h g =
    let s = sharing_of x in
    let c = taken_in_blocks x h.taken in
    let some = taken_some x h.taken in
    record { in_blocks = c; blocks_least = blocks_some s c some; periods_whole = blocks_divided s c some; all_good = g }

pub shared_lasting : (x : Wanted) (s : Sharing) → shared x ≡ answer s → steady s ≡ answer s → Lasting s
shared_lasting x s h k =
    let z = shared_told x s h in
    rw z.1 (sharable_lasting x z.0 (rw z.1 at ((steady_when s).0 k)))

-- the plan that the builder of shares gives is of what is wanted, and it lasts
pub plan-told : (x : Wanted) (room : ℕ) (s : Sharing) → share_plan x room ≡ answer s → (s ≡ sharing_of x) × Lasting s
plan-told x room s h = go ((shares_when x room (answer s)).0 h)
  where
    go : WhenShares x room (answer s) → (s ≡ sharing_of x) × Lasting s
    go (not_shared_lem n p f q) = answered s n p q
    go (list_short q f a) = answered s 8 (entries_needed (sharing_of x)) q
    go (block_bad b q f a g) = answered s 23 b q
    go (shares_given q f a g) =
        let e = answer_one s (sharing_of x) q in
        (e, rw e (sharable_lasting x f g))

pub plan-serves : (x : Wanted) (room : ℕ) (s : Sharing) → share_plan x room ≡ answer s → Serves s
plan-serves x room s h = lasting_serves s (plan-told x room s h).1

-- what the question answers is the engine's part of a schedule that lasts
pub question-told :
    (x : Wanted) (e : Engine) (k : ℕ) (a : Held) → share_question x e k ≡ answer a
    → (a ≡ share_schedule (sharing_of x) e k) × (e.0 < x.engines) × Lasting (sharing_of x)
question-told x e k a h = go ((asked_when x e k (answer a)).0 h)
  where
    go : WhenAsked x e k (answer a) → (a ≡ share_schedule (sharing_of x) e k) × (e.0 < x.engines) × Lasting (sharing_of x)
    go (nothing_shared n p f q) = answered a n p q
    go (block_fails_lem b q f g) = answered a 23 b q
    go (engine_out q f g m) = answered a 18 0 q
    go (answered_so q f g m) = (answer_one a (share_schedule (sharing_of x) e k) q, m, sharable_lasting x f g)

pub question-serves : (x : Wanted) (e : Engine) (k : ℕ) (a : Held) → share_question x e k ≡ answer a → Serves (sharing_of x)
question-serves x e k a h = lasting_serves (sharing_of x) (question-told x e k a h).2

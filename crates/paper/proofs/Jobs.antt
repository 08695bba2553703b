-- Jobs begin with blocks. The block length divides every period, and the ticks by which a duty started before the plan; so in units of
-- blocks a job is a quotient too, which stays inside a block and grows by one at most from a block to the next.
-- Assumes nothing.
use Prim.Native.Nat.{ℕ, suc, ◌+◌, ◌*◌, ◌/◌, ◌≤◌, ◌<◌, ◌∣◌}
use mathlib.Core.Path.{◌≡◌, sym, ap, ◌∙◌}
use mathlib.Core.List.{List}
use mathlib.Core.Logic.{◌↔◌}
use native.Mathlib.Nat.{add-suc, suc-mul, dvd-zero, div-mul-le_self, lt-div-mul-add, div-eq_of_lt-le}
use native.Mathlib.Omega.{arith}
use lib.ListN.{length, get_or-eq_default}
use Rattle.laws.proofs.Cases.{lt_or_le}
use Rattle.laws.proofs.Quotients.{quotient_grows, quotient_by_blocks}
use Rattle.paper.specs.declared.Duty.{Duty}
use Rattle.std.specs.Prelude.{None, Some}
use Rattle.paper.specs.Duties.{Held, duty, duty_at, job_start, Jobs, jobs_led, jobs_of}
use Rattle.paper.specs.Statements.{CommonDivisor}

-- where all start at tick 0, the job of a tick is the one of which document 01 says that it has the tick
pub job_ticks : (ds : List Duty) (i k q : ℕ) → 0 < (duty_at ds i).period
    → (jobs_of ds i k ≡ q) ↔ ((job_start (duty_at ds i) q ≤ k) × (k < job_start (duty_at ds i) q + (duty_at ds i).period))
unfolding jobs_led
job_ticks ds i k q h =
    let d = (duty_at ds i).period in
    let z : 0 + k ≡ k = omega arith in
    rw z (
      (λ e. rw (← e) (div-mul-le_self k d, lt-div-mul-add h)),
      (λ r. div-eq_of_lt-le d r.0 (omega (arith, r.1, suc-mul q d))),
    )

-- the job of what is held, at a tick
abbrev pub job_of : Jobs → Held → ℕ → ℕ
job_of jobs None k = 0
job_of jobs (Some i) k = jobs i k

-- inside a block of t ticks jobs stay, and from a block to the next they go on by one at most
pub record Blockwise (t : ℕ) (jobs : Jobs) : Type 0 where
  pub stay : (i b u : ℕ) → u < t → jobs i (b * t + u) ≡ jobs i (b * t)
  pub grow : (i b : ℕ) → jobs i (b * t) ≤ jobs i (suc b * t)
  pub by_one : (i b : ℕ) → jobs i (suc b * t) ≤ suc (jobs i (b * t))

pub jobs_blockwise : (t : ℕ) (lead : ℕ → ℕ) (ds : List Duty) → 0 < t → ((i : ℕ) → t ∣ lead i) → CommonDivisor t ds
    → Blockwise t (jobs_led lead ds)
unfolding jobs_led
jobs_blockwise t lead ds h leads divided =
    record {
      stay = λ i b u l. at i b u l ∙ sym (start i b);
      grow = λ i b. omega (arith, start i b, next i b, (quotient_grows (lead i / t + b) (p i)).0);
      by_one = λ i b. omega (arith, start i b, next i b, (quotient_grows (lead i / t + b) (p i)).1);
    }
  where
    -- the blocks of a job
    p : ℕ → ℕ
    p i = (duty_at ds i).period / t

    -- a number past the duties stands for one without a period
    divides : (i : ℕ) → t ∣ (duty_at ds i).period
    divides i = lt_or_le i (length ds) (divided i) (λ l. rw (get_or-eq_default ds (duty 0 0) {n = i} l) (dvd-zero t))

    at : (i b u : ℕ) → u < t → (lead i + (b * t + u)) / (duty_at ds i).period ≡ (lead i / t + b) / p i
    at i b u l = quotient_by_blocks (lead i) b u h (leads i) (divides i) l

    start : (i b : ℕ) → (lead i + b * t) / (duty_at ds i).period ≡ (lead i / t + b) / p i
    start i b = let z : b * t + 0 ≡ b * t = omega arith in rw z at (at i b 0 h)

    next : (i b : ℕ) → (lead i + suc b * t) / (duty_at ds i).period ≡ suc (lead i / t + b) / p i
    next i b = start i (suc b) ∙ ap (λ n. n / p i) (add-suc (lead i / t) b)

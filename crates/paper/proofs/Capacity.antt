-- What a schedule that meets duties asks of its engines. In a tick an engine has one duty at most, so over h ticks m engines have m·h ticks
-- to give. Where every period divides h, duty i has h/D jobs in them, each of C ticks or more, and so C·(h/D). So these add up to m·h at
-- most. Nothing else was asked of h, and no block or slice is in it.
-- And first what meets duties, a schedule that gives every job exactly its service and no duty two engines, and what does not.
-- Assumes nothing.
use Prim.Native.Nat.{ℕ, ◌+◌, ◌*◌, ◌/◌, ◌≤◌, ◌<◌, ◌∣◌}
use mathlib.Core.Path.{◌≡◌, refl, sym, ap, ◌∙◌}
use mathlib.Core.Bool.{Bool, true}
use mathlib.Core.List.{List, [], ◌∷◌}
use mathlib.Core.Logic.{◌↔◌}
use native.Mathlib.Nat.{mul_comm, div-mul_cancel}
use native.Mathlib.Omega.{arith}
use lib.Dec.{eqb}
use lib.ListN.{length}
use borrow.Author.Tests.{eqb-true, eq-eqb}
use Rattle.laws.specs.Choice.{pick, one_if}
use Rattle.laws.specs.Sum.{sum_to}
use Rattle.laws.proofs.Cases.{by_order, not_both}
use Rattle.laws.proofs.Sum.{sum_none, sum_le, sum_const, sum_zero, sum_blocks, sum_swap, count_once, once_counted}
use Rattle.paper.specs.declared.Duty.{Duty}
use Rattle.std.specs.Prelude.{None, Some}
use Rattle.paper.specs.Duties.{Held, engine, duty, duty_at, job_start, asks, asked_in, same}
use Rattle.paper.specs.Schedule.{Schedule, given, served}
use Rattle.paper.specs.Capacity.{MeetsDuties, Possible}

-- ---- a duty on one engine at most

-- what is one with a duty is the duty
pub same_held : (h : Held) (i : ℕ) → same h (Some i) ≡ true → h ≡ Some i
unfolding same
same_held None i p = not_both p refl
same_held (Some j) i p = ap Some (eqb-true j i p)

held_same : (h : Held) (i : ℕ) → h ≡ Some i → same h (Some i) ≡ true
unfolding same
held_same h i e = rw (e, eq-eqb i i refl)

-- counted, it says that two engines which have the duty in one tick are one
pub once_when :
    (m : ℕ) (s : Schedule) (i k : ℕ)
    → (given m s i k ≤ 1) ↔ ((e d : ℕ) → e < m → d < m → s (engine e) k ≡ Some i → s (engine d) k ≡ Some i → e ≡ d)
unfolding given
once_when m s i k = (there, back)
  where
    has : ℕ → Bool
    has e = same (s (engine e) k) (Some i)

    there : sum_to m (λ e. one_if (has e)) ≤ 1 → (e d : ℕ) → e < m → d < m → s (engine e) k ≡ Some i → s (engine d) k ≡ Some i → e ≡ d
    there a e d l h p q =
        let at-e = held_same (s (engine e) k) i p in
        let at-d = held_same (s (engine d) k) i q in
        by_order e d (λ b. absurd (once_counted m has a e d b h at-e at-d)) (λ b. absurd (once_counted m has a d e b l at-d at-e)) (λ z. z)

    back : ((e d : ℕ) → e < m → d < m → s (engine e) k ≡ Some i → s (engine d) k ≡ Some i → e ≡ d) → sum_to m (λ e. one_if (has e)) ≤ 1
    back u =
        count_once m has
        (λ e d l h p q. omega (arith, u e d (omega arith) h (same_held (s (engine e) k) i p) (same_held (s (engine d) k) i q)))

-- ---- what meets duties

-- a schedule that gives a duty one engine at most, and each job exactly its service
pub exactly_meets :
    (m : ℕ) (ds : List Duty) (s : Schedule) → ((i k : ℕ) → i < length ds → given m s i k ≤ 1)
    → ((i q : ℕ) → i < length ds → served m s i (job_start (duty_at ds i) q) (duty_at ds i).period ≡ (duty_at ds i).service)
    → MeetsDuties m ds s
exactly_meets m ds s once jobs =
    record { one_engine = λ i k l. omega (arith, once i k l); in_time = λ i q l. omega (arith, jobs i q l) }

-- ---- and what does not

-- of one duty of 1 tick in every 1: an engine that idles, ..
abbrev always : List Duty
always = duty 1 1 ∷ []

pub idle_meets_not : MeetsDuties 1 always (λ e k. None) → ⊥
unfolding served given same sum_to
idle_meets_not h =
    let none : served 1 (λ e k. None) 0 (job_start (duty 1 1) 0) 1 ≡ 0 = refl in
    omega (arith, h.in_time 0 0 (omega arith), none)

-- .. one that serves the first job alone, ..
abbrev only_first : Schedule
only_first e k = pick (eqb k 0) (Some 0) None

pub first_meets_not : MeetsDuties 1 always only_first → ⊥
unfolding served given same sum_to
first_meets_not h =
    let none : served 1 only_first 0 (job_start (duty 1 1) 1) 1 ≡ 0 = refl in
    omega (arith, h.in_time 0 1 (omega arith), none)

-- .. and two that serve it at once
pub both_meet_not : MeetsDuties 2 always (λ e k. Some 0) → ⊥
unfolding given same sum_to
both_meet_not h =
    let two : given 2 (λ e k. Some 0) 0 0 ≡ 2 = refl in
    omega (arith, h.one_engine 0 0 (omega arith), two)

-- ---- what engines have to give

-- of any duties an engine has one at most
one_duty : (h : Held) (i j : ℕ) → same h (Some i) ≡ true → same h (Some j) ≡ true → i ≡ j
one_duty h i j p q = let both : Some i ≡ Some j = sym (same_held h i p) ∙ same_held h j q in cc

-- so at a tick m engines serve m duties at most, ..
tick_most : (m n : ℕ) (s : Schedule) (k : ℕ) → sum_to n (λ i. given m s i k) ≤ m
unfolding given
tick_most m n s k =
    let on : ℕ → ℕ → ℕ = λ i e. one_if (same (s (engine e) k) (Some i)) in
    omega (
      arith,
      sum_swap n m on,
      sum_le m (λ e. sum_to n (λ i. on i e)) (λ e. 1)
          (λ e h. count_once n (λ i. same (s (engine e) k) (Some i)) (λ i j l b p q. omega (arith, one_duty (s (engine e) k) i j p q))),
      sum_const m 1,
    )

-- .. and in h ticks they have m·h ticks to give
ticks_most : (m n : ℕ) (s : Schedule) (h : ℕ) → sum_to n (λ i. sum_to h (given m s i)) ≤ m * h
ticks_most m n s h =
    omega (
      arith,
      sum_swap n h (given m s),
      sum_le h (λ k. sum_to n (λ i. given m s i k)) (λ k. m) (λ k l. tick_most m n s k),
      sum_const h m,
      mul_comm h m,
    )

-- ---- what duties ask for

module _ (m : ℕ) (ds : List Duty) (s : Schedule) (meets : MeetsDuties m ds s) where
  -- the first a jobs of duty i are a·C ticks or more
  jobs_least : (i a : ℕ) → i < length ds → a * (duty_at ds i).service ≤ sum_to (a * (duty_at ds i).period) (given m s i)
  unfolding served
  jobs_least i a l =
      let c = (duty_at ds i).service in
      let d = (duty_at ds i).period in
      omega (
        arith,
        sum_blocks a d (given m s i),
        sum_le a (λ q. c) (λ q. sum_to d (λ u. given m s i (q * d + u))) (λ q h. meets.in_time i q l),
        sum_const a c,
      )

  -- so where every period divides h, the duties ask for no more than m engines have in h ticks
  pub meets_most :
      (h : ℕ) → ((i : ℕ) → i < length ds → (duty_at ds i).period ∣ h)
      → asked_in h ds ≤ m * h
  meets_most h divided =
      omega (
        arith,
        sum_le (length ds) (λ i. asks h (duty_at ds i)) (λ i. sum_to h (given m s i))
            (λ i l.
            let e = div-mul_cancel (duty_at ds i).period (divided i l) in
            rw (mul_comm (duty_at ds i).service (h / (duty_at ds i).period))
            (rw e at (jobs_least i (h / (duty_at ds i).period) l))),
        ticks_most m (length ds) s h,
      )

-- on no engine nothing is met: one duty with some service is enough
none_given : (s : Schedule) (i k : ℕ) → given 0 s i k ≡ 0
unfolding given
none_given s i k = sum_none (λ e. one_if (same (s (engine e) k) (Some i)))

pub none_on_none : (ds : List Duty) → 0 < length ds → 1 ≤ (duty_at ds 0).service → Possible 0 ds → ⊥
unfolding served
none_on_none ds some c p =
    let x = duty_at ds 0 in
    let on : ℕ → ℕ = λ j. given 0 p.schedule 0 (job_start x 0 + j) in
    omega (arith, p.meets.in_time 0 0 some, sum_zero x.period on (λ j h. none_given p.schedule 0 (job_start x 0 + j)))

-- Refused, and yet possible: 24, 6, 22 and 23 are no proof of overload. For each of them a set that is refused so, and a schedule that
-- meets it. All services are 1, so it is enough to name a tick in each job at which an engine has the duty.
-- Assumes nothing.
use Prim.Native.Nat.{ℕ, zero, suc, ◌+◌, ◌*◌, ◌/◌, ◌%◌, ◌≤◌, ◌<◌}
use mathlib.Core.Path.{◌≡◌, refl, ap, ◌∙◌}
use mathlib.Core.List.{List, [], ◌∷◌}
use native.Mathlib.Omega.{arith}
use lib.Arith.{digits_mod}
use lib.Dec.{eqb}
use lib.ListN.{length}
use borrow.Author.Tests.{eqb-true, eq-eqb, ne_eqb}
use Rattle.laws.specs.Choice.{pick, one_if}
use Rattle.laws.specs.Search.{first}
use Rattle.laws.specs.Lists.{tab}
use Rattle.laws.specs.Divisor.{gcd_of, gcd, euclid, lcm_of, lcm}
use Rattle.laws.proofs.Cases.{by_cases, lt_or_le}
use Rattle.laws.proofs.Sum.{sum_one, sum_term, count_once}
use Rattle.paper.specs.declared.Duty.{Duty}
use Rattle.std.specs.Prelude.{Some}
use Rattle.paper.specs.Duties.{Held, engine, duty, duty_at, job_start, same}
use Rattle.paper.specs.Words.{whole, block_length_of}
use Rattle.paper.specs.Schedule.{Schedule, given, served}
use Rattle.paper.specs.Capacity.{Possible}
use Rattle.paper.specs.Outcome.{refused}
use Rattle.paper.specs.Wanted.{wanted, duties_of, in_range, taken}
use Rattle.paper.specs.Builder.{plan_at, plan}
use Rattle.paper.specs.Shares.{common, blocks, sharable, share_plan}
use Rattle.demands.proofs.ShareDemands.{sets_hold}

-- ---- what is enough

-- job q of duty i asks for one tick, and has one, the j-th of its period, on engine e
record HasTick (m : ℕ) (ds : List Duty) (s : Schedule) (i q : ℕ) : Type 0 where
  e : ℕ
  j : ℕ
  one : (duty_at ds i).service ≤ 1
  engine_below : e < m
  inside : j < (duty_at ds i).period
  has : s (engine e) (job_start (duty_at ds i) q + j) ≡ Some i

tick-serves :
    {m : ℕ} {ds : List Duty} {s : Schedule} {i q : ℕ} → HasTick m ds s i q
    → (duty_at ds i).service ≤ served m s i (job_start (duty_at ds i) q) (duty_at ds i).period
unfolding served given same
tick-serves {m} {ds} {s} {i} {q} h =
    let k = job_start (duty_at ds i) q in
    let on : ℕ → ℕ = λ e. one_if (same (s (engine e) (k + h.j)) (Some i)) in
    let here : on h.e ≡ 1 = rw (h.has, eq-eqb i i refl) in
    omega (
      arith,
      sum_term (duty_at ds i).period h.j (λ u. given m s i (k + u)) h.inside,
      sum_term m h.e on h.engine_below,
      here,
      h.one,
    )

-- on a single engine a duty has one at most
one_alone : (s : Schedule) (i k : ℕ) → given 1 s i k ≤ 1
unfolding given
one_alone s i k =
    let here = same (s (engine 0) k) (Some i) in
    rw (sum_one (λ e. one_if (same (s (engine e) k) (Some i))))
    (by_cases here (λ p. omega (arith, ap one_if p)) (λ p. omega (arith, ap one_if p)))

-- so a single engine on which every job has its tick
alone : (ds : List Duty) (s : Schedule) → ((i q : ℕ) → i < length ds → HasTick 1 ds s i q) → Possible 1 ds
alone ds s h =
    record { schedule = s; meets = record { one_engine = λ i k l. one_alone s i k; in_time = λ i q l. tick-serves (h i q l) } }

-- such a tick, where the numbers are at hand
tick :
    (m : ℕ) (ds : List Duty) (s : Schedule) (i q e j : ℕ) → ((duty_at ds i).service ≤ 1) × (e < m) × (j < (duty_at ds i).period)
    → s (engine e) (job_start (duty_at ds i) q + j) ≡ Some i → HasTick m ds s i q
tick m ds s i q e j l h = record { e = e; j = j; one = l.0; engine_below = l.1; inside = l.2; has = h }

-- at even ticks the one, at odd ticks the other
at_even : {A : Type 0} (x y : A) (k b : ℕ) → k ≡ b * 2 → pick (eqb (k % 2) 0) x y ≡ x
at_even x y k b e = rw (eq-eqb (k % 2) 0 (omega (arith, e)))

at_odd_lem : {A : Type 0} (x y : A) (k b : ℕ) → k ≡ b * 2 + 1 → pick (eqb (k % 2) 0) x y ≡ y
at_odd_lem x y k b e = let one : k % 2 ≡ 1 = rw e (digits_mod b (omega arith)) in rw (ne_eqb (k % 2) 0 (λ z. omega (arith, one)))

-- ---- 24

-- 1 tick in every 2 on one engine; blocks of 3 are wanted
pub refused_24 : (plan 3 (wanted 1 (1 ∷ []) (2 ∷ [])) ≡ refused 24 0) × Possible 1 (duty 1 2 ∷ [])
unfolding plan taken in_range duties_of tab first
refused_24 = (refl, alone (duty 1 2 ∷ []) (λ e k. Some 0) has)
  where
    has : (i q : ℕ) → i < 1 → HasTick 1 (duty 1 2 ∷ []) (λ e k. Some 0) i q
    has zero q l = tick 1 _ _ 0 q 0 0 (omega arith) refl
    has (suc i) q l = absurd (omega arith)

-- ---- 6

-- 1 in every 2 and 1 in every 3 on one engine: the one at even ticks, the other at odd ones
abbrev parity : Schedule
parity e k = pick (eqb (k % 2) 0) (Some 0) (Some 1)

pub refused_6 : (plan 0 (wanted 1 (1 ∷ 1 ∷ []) (2 ∷ 3 ∷ [])) ≡ refused 6 0) × Possible 1 (duty 1 2 ∷ duty 1 3 ∷ [])
unfolding plan taken in_range duties_of tab first plan_at whole block_length_of gcd_of gcd euclid
refused_6 = (refl, alone (duty 1 2 ∷ duty 1 3 ∷ []) parity has)
  where
    has : (i q : ℕ) → i < 2 → HasTick 1 (duty 1 2 ∷ duty 1 3 ∷ []) parity i q
    has zero q l = tick 1 _ parity 0 q 0 0 (omega arith) (at_even (Some 0) (Some 1) (q * 2 + 0) q (omega arith))
    has (suc zero) q l =
        lt_or_le 0 (q % 2)
        (λ a. tick 1 _ parity 1 q 0 0 (omega arith) (at_odd_lem (Some 0) (Some 1) (q * 3 + 0) (q / 2 * 3 + 1) (omega arith)))
        (λ a. tick 1 _ parity 1 q 0 1 (omega arith) (at_odd_lem (Some 0) (Some 1) (q * 3 + 1) (q / 2 * 3) (omega arith)))
    has (suc (suc i)) q l = absurd (omega arith)

-- ---- 22

-- 1 in every 1 and 1 in every 4097 on two engines: each has one of its own
abbrev own_engine : Schedule
own_engine e k = Some e.0

pub refused_22 : (share_plan (wanted 2 (1 ∷ 1 ∷ []) (1 ∷ 4097 ∷ [])) 0 ≡ refused 22 0)
    × Possible 2 (duty 1 1 ∷ duty 1 4097 ∷ [])
unfolding taken in_range duties_of tab first sharable blocks common block_length_of gcd_of gcd euclid lcm_of lcm given same
refused_22 = (refl, record { schedule = own_engine; meets = record { one_engine = once; in_time = λ i q l. tick-serves (has i q l) } })
  where
    has : (i q : ℕ) → i < 2 → HasTick 2 (duty 1 1 ∷ duty 1 4097 ∷ []) own_engine i q
    has zero q l = tick 2 _ own_engine 0 q 0 0 (omega arith) refl
    has (suc zero) q l = tick 2 _ own_engine 1 q 1 0 (omega arith) refl
    has (suc (suc i)) q l = absurd (omega arith)

    once : (i k : ℕ) → i < 2 → given 2 own_engine i k ≤ 1
    once i k l = count_once 2 (λ e. eqb e i) (λ d e h b p q. omega (arith, eqb-true d i p, eqb-true e i q))

-- ---- 23

-- 1 in every 2, 1 in every 6 and 1 in every 3 on one engine: duty 0 at even ticks; at odd ticks duty 1 where it is tick 3 of six, else
-- duty 2
abbrev at_odd : ℕ → Held
at_odd k = pick (eqb (k % 6) 3) (Some 1) (Some 2)

abbrev of_six : Schedule
of_six e k = pick (eqb (k % 2) 0) (Some 0) (at_odd k)

third : (k b : ℕ) → k ≡ b * 6 + 3 → at_odd k ≡ Some 1
third k b e = let three : k % 6 ≡ 3 = rw e (digits_mod b (omega arith)) in rw (eq-eqb (k % 6) 3 three)

other : (k b r : ℕ) → k ≡ b * 6 + r → (r < 6) × (r ≡ 3 → ⊥) → at_odd k ≡ Some 2
other k b r e l = let left : k % 6 ≡ r = rw e (digits_mod b l.0) in rw (ne_eqb (k % 6) 3 (λ z. l.1 (omega (arith, left))))

pub refused_23 : (share_plan (wanted 1 (1 ∷ 1 ∷ 1 ∷ []) (2 ∷ 6 ∷ 3 ∷ [])) 18 ≡ refused 23 2)
    × Possible 1 (duty 1 2 ∷ duty 1 6 ∷ duty 1 3 ∷ [])
refused_23 = ((sets_hold 2 (omega arith)).0, alone (duty 1 2 ∷ duty 1 6 ∷ duty 1 3 ∷ []) of_six has)
  where
    has : (i q : ℕ) → i < 3 → HasTick 1 (duty 1 2 ∷ duty 1 6 ∷ duty 1 3 ∷ []) of_six i q
    has zero q l = tick 1 _ of_six 0 q 0 0 (omega arith) (at_even (Some 0) (at_odd (q * 2 + 0)) (q * 2 + 0) q (omega arith))
    has (suc zero) q l =
        let k = q * 6 + 3 in
        tick 1 _ of_six 1 q 0 3 (omega arith) (at_odd_lem (Some 0) (at_odd k) k (q * 3 + 1) (omega arith) ∙ third k q refl)
    has (suc (suc zero)) q l =
        let early = q * 3 + 1 in
        let late = q * 3 + 2 in
        lt_or_le 0 (q % 2)
        (λ a. tick 1 _ of_six 2 q 0 2 (omega arith)
        (at_odd_lem (Some 0) (at_odd late) late (q / 2 * 3 + 2) (omega arith) ∙ other late (q / 2) 5 (omega arith) (omega arith)))
        (λ a. tick 1 _ of_six 2 q 0 1 (omega arith)
        (at_odd_lem (Some 0) (at_odd early) early (q / 2 * 3) (omega arith) ∙ other early (q / 2) 1 (omega arith) (omega arith)))
    has (suc (suc (suc i))) q l = absurd (omega arith)

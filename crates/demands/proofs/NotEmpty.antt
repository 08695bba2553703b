-- The theorems of `Demands` speak of something. A table written by hand is accepted, and the builder plans it for no engines and duties: it
-- has five runs where SA1 has two. Another has blocks of half the greatest length. The table and the bytes of P2 meet the theorems'
-- hypotheses, and what the theorems then say of them is stated here, and of 004's table 3 as a plan of shares; and two sets are shown to
-- need the engines that they have. Sets that the builder plans and sets that it refuses stand in `CasesHold` and `LengthCasesHold`.
-- Assumes nothing.
use Prim.Native.Nat.{ℕ, ◌*◌}
use mathlib.Core.Path.{◌≡◌, refl, ap, ◌∙◌}
use mathlib.Core.List.{List, [], ◌∷◌}
use native.Mathlib.Omega.{arith}
use lib.ListN.{length}
use Rattle.laws.specs.Search.{first}
use Rattle.laws.specs.Lists.{tab, flat, sum_of}
use Rattle.laws.specs.Digits.{digits, num_at}
use Rattle.laws.specs.Sum.{sum_to}
use Rattle.laws.specs.Divisor.{gcd_of, gcd, euclid, lcm_of, lcm}
use Rattle.laws.proofs.Lists.{length-tab}
use Rattle.laws.proofs.Digits.{AreBytes}
use Rattle.paper.specs.declared.Duty.{Duty}
use Rattle.std.specs.Prelude.{Some}
use Rattle.paper.specs.Duties.{duty, engine, same, services_of, periods_of}
use Rattle.paper.specs.Words.{run, row, slice, whole, covers, held_in, block_length_of, Table}
use Rattle.paper.specs.Sa1.{sa1, lay, lay_one, row_after, unit_after}
use Rattle.paper.specs.Rotation.{link, first_of, next_of, row_at}
use Rattle.paper.specs.Walk.{walk}
use Rattle.paper.specs.Schedule.{served}
use Rattle.paper.specs.Capacity.{FewestEngines}
use Rattle.paper.specs.Outcome.{refused, answer}
use Rattle.paper.specs.Limits.{small, most_engines}
use Rattle.paper.specs.Bytes.{parse, after_head, after_runs, table_in, stands}
use Rattle.paper.specs.Bytes.{duty_in, run_in, encode, bytes_of, head_bytes, duty_bytes, run_bytes, end_bytes}
use Rattle.paper.specs.Wanted.{Wanted, wanted, duty_set, duties_of, in_range, taken}
use Rattle.paper.specs.Builder.{plan_at, length_meant, plan, build}
use Rattle.paper.specs.Rules.{before, meet, unordered, overlaps, joins, twice, units_of, judge_runs, judge_duties}
use Rattle.paper.specs.Rules.{judge_table, accepted}
use Rattle.paper.specs.Statements.{Meets}
use Rattle.paper.specs.Answers.{rows_at, advanced, question}
use Rattle.table_laws.proofs.Bytes.{encode_bytes}
use Rattle.table_laws.proofs.AcceptedBytes.{accepted_meets}
use Rattle.paper.specs.Shares.{common, blocks, share_schedule, overloaded, sharable, share_plan}
use Rattle.paper.specs.ShareCases.{wanted_in, sharing_in, table3}
use Rattle.demands.proofs.Demands.{plan-sa1, jobs_served, question_walks, strange_refused}
use Rattle.demands.proofs.ShareDemands.{share_jobs_served, sets_hold}
use Rattle.demands.proofs.CapacityDemands.{7-of-tables, 7-of-shares, plan_of_tables, plan_of_shares, one_engine_fewer}

-- ---- a table that the builder does not write

-- two duties on two rows of three with idle gaps, duty 0 in three pieces and duty 1 in two
pub by_hand : Table
by_hand =
    record {
      ticks = 6;
      engines = 3;
      duties = duty 3 6 ∷ duty 4 12 ∷ [];
      runs = run 0 0 1 1 ∷ run 0 1 3 1 ∷ run 2 0 0 1 ∷ run 2 1 2 1 ∷ run 2 0 4 1 ∷ [];
    }

-- it is accepted
pub by_hand-accepted : accepted (bytes_of by_hand) ≡ answer by_hand
unfolding by_hand accepted parse after_head after_runs table_in stands duty_in run_in num_at tab encode head_bytes duty_bytes run_bytes
    end_bytes flat
    digits judge_table judge_duties judge_runs overlaps joins twice meet before unordered units_of whole slice block_length_of gcd_of gcd
    euclid
    first
by_hand-accepted = refl

-- SA1 gives these duties one run each
by_hand_own : by_hand ≡ sa1 6 3 by_hand.duties → ⊥
unfolding by_hand sa1 lay lay_one row_after unit_after slice
by_hand_own e = let z : ◌≡◌ {A = ℕ} 5 2 = ap (λ (t : Table). length t.runs) e in omega arith

-- a table of SA1's is the one of its own T, engines and duties
sa1_own : (x : Table) (t m : ℕ) (ds : List Duty) → x ≡ sa1 t m ds → x ≡ sa1 x.ticks x.engines x.duties
unfolding sa1
sa1_own x t m ds e = rw e

-- so the builder never plans it
pub by_hand_unplanned : (wish : ℕ) (x : Wanted) → plan wish x ≡ answer by_hand → ⊥
unfolding by_hand
by_hand_unplanned wish x h =
    by_hand_own (sa1_own by_hand (length_meant wish (duty_set x)) x.engines (duty_set x) (plan-sa1 wish x by_hand h))

-- its bytes are bytes, and it meets the rules
pub by_hand_bytes : AreBytes (bytes_of by_hand)
by_hand_bytes = encode_bytes small by_hand (omega arith) (omega arith)

pub by_hand_meets : Meets by_hand
by_hand_meets = accepted_meets (bytes_of by_hand) by_hand by_hand-accepted

-- ---- the theorems at work

-- job 5 of duty 1, which has the ticks 60 to 71, runs for 4 ticks of them
pub job_of_by_hand : served 3 (walk by_hand) 1 60 12 ≡ 4
unfolding by_hand
job_of_by_hand = jobs_served (bytes_of by_hand) by_hand by_hand-accepted 1 (omega arith) 5

-- at tick 10 engine 2 runs row 2, where unit 4 is duty 0's
pub question_of_by_hand : question (bytes_of by_hand) (engine 2) 10 ≡ answer (record { held = Some 0; row = row 2 })
unfolding by_hand walk link held_in covers same row_at next_of first_of
question_of_by_hand = question_walks (bytes_of by_hand) by_hand by_hand-accepted (engine 2) 10 (omega arith)

-- a state with no rows is refused
pub state_of_by_hand : advanced (bytes_of by_hand) (record { block = 0; rows = [] }) ≡ refused 20 0
unfolding rows_at
state_of_by_hand =
    (strange_refused (bytes_of by_hand) by_hand by_hand-accepted (record { block = 0; rows = [] })
    (λ e. let z : 0 ≡ most_engines = ap length e ∙ length-tab most_engines _ in omega arith)).1

-- ---- a table with shorter blocks

-- two duties in blocks of 3 ticks, where the greatest common divisor of the periods is 6; duty 0 is on both rows, which so are a chain
pub by_hand_short : Table
by_hand_short =
    record {
      ticks = 3;
      engines = 2;
      duties = duty 8 12 ∷ duty 6 18 ∷ [];
      runs = run 0 0 2 1 ∷ run 1 0 0 1 ∷ run 1 1 2 1 ∷ [];
    }

-- it is accepted
pub by_hand_short-accepted : accepted (bytes_of by_hand_short) ≡ answer by_hand_short
unfolding by_hand_short accepted parse after_head after_runs table_in stands duty_in run_in num_at tab encode head_bytes duty_bytes
    run_bytes end_bytes
    flat digits judge_table judge_duties judge_runs overlaps joins twice meet before unordered units_of whole slice first
by_hand_short-accepted = refl

-- job 3 of duty 0, which has the ticks 36 to 47, runs for 8 ticks of them
pub job_of_by_hand_short : served 2 (walk by_hand_short) 0 36 12 ≡ 8
unfolding by_hand_short
job_of_by_hand_short = jobs_served (bytes_of by_hand_short) by_hand_short by_hand_short-accepted 0 (omega arith) 3

-- at tick 5, in block 1, engine 0 runs row 1, where unit 2 is duty 1's
pub question_of_by_hand_short : question (bytes_of by_hand_short) (engine 0) 5 ≡ answer (record { held = Some 1; row = row 1 })
unfolding by_hand_short walk link held_in covers same row_at next_of first_of
question_of_by_hand_short = question_walks (bytes_of by_hand_short) by_hand_short by_hand_short-accepted (engine 0) 5 (omega arith)

-- in blocks of 3 the builder gives these duties other runs
pub by_hand_short-other :
    plan 3 (wanted 2 (8 ∷ 6 ∷ []) (12 ∷ 18 ∷ [])) ≡ answer (sa1 3 2 by_hand_short.duties)
    × (length (sa1 3 2 by_hand_short.duties).runs ≡ 2)
unfolding by_hand_short plan taken in_range plan_at sa1 lay lay_one row_after unit_after slice whole duties_of tab sum_of first
by_hand_short-other = (refl, refl)

-- ---- the builder at work

-- the builder writes P2's 30 bytes into a buffer of 30, and refuses one of 29
pub built-p2 : (build 0 (wanted 1 (1 ∷ []) (1 ∷ [])) 30 ≡ answer
    (1 ∷ 1 ∷ 0 ∷ 0 ∷ 0 ∷ 1 ∷ 1 ∷ 2 ∷ 1 ∷ 0 ∷ 0 ∷ 0 ∷ 1 ∷ 0 ∷ 0 ∷ 0 ∷ 3 ∷ 0 ∷ 0 ∷ 0 ∷ 0 ∷ 0 ∷ 0 ∷ 1 ∷ 0 ∷ 0 ∷ 0 ∷ 4 ∷ 1 ∷ 0 ∷ []))
    × (build 0 (wanted 1 (1 ∷ []) (1 ∷ [])) 29 ≡ refused 8 30)
unfolding plan taken in_range plan_at sa1 lay lay_one row_after unit_after slice whole block_length_of gcd_of gcd euclid duties_of tab
    sum_of first
    encode head_bytes duty_bytes run_bytes end_bytes flat digits
built-p2 = (refl, refl)

-- ---- a plan of shares

-- 004's table 3 is given ..
table3-given : share_plan (wanted_in table3) 36 ≡ answer (sharing_in table3)
table3-given = (sets_hold 0 (omega arith)).0.0

-- .. so each job of its duty 5 gets 37 ticks in its 60
pub table3-served : (q : ℕ) → served 3 (share_schedule (sharing_in table3)) 5 (q * 60) 60 ≡ 37
table3-served q = share_jobs_served (wanted_in table3) 36 (sharing_in table3) table3-given 5 q (omega arith)

-- ---- one engine fewer

-- three duties of 2 ticks in every 3 have a plan on two engines, and on one get 7: so they need two, whoever schedules them
pub three_need_two : FewestEngines 2 (duties_of (2 ∷ 2 ∷ 2 ∷ []) (3 ∷ 3 ∷ 3 ∷ []))
unfolding plan taken in_range plan_at sa1 lay lay_one row_after unit_after slice whole block_length_of gcd_of gcd euclid duties_of tab
    sum_of first
three_need_two = one_engine_fewer 1 (2 ∷ 2 ∷ 2 ∷ []) (3 ∷ 3 ∷ 3 ∷ []) (7-of-tables 0 0 0 refl) (plan_of_tables 0 _ refl)

-- and 004's table 3 needs its three, since as a plan of shares it gets 7 on two
table3_on_two : share_plan (wanted 2 (services_of table3.duties) (periods_of table3.duties)) 0 ≡ refused 7 0
unfolding taken in_range duties_of tab first sharable blocks common overloaded block_length_of gcd_of gcd euclid lcm_of lcm sum_to
table3_on_two = refl

pub table3_needs_three : FewestEngines 3 (duty_set (wanted_in table3))
table3_needs_three =
    one_engine_fewer 2 (services_of table3.duties) (periods_of table3.duties) (7-of-shares 0 0 table3_on_two)
    (plan_of_shares 36 (sharing_in table3) table3-given)

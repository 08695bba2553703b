-- What is stated of sets with a wanted block length, and of tables with a T that is not the greatest, holds. Tables, slices and refusals
-- are found by computing; the loads of all blocks follow from those of the first two, as in `CasesHold`.
-- Assumes nothing.
use Prim.Native.Nat.{ℕ, ◌<◌}
use mathlib.Core.Path.{◌≡◌, refl}
use mathlib.Core.List.{[], ◌∷◌}
use native.Mathlib.Omega.{arith}
use lib.ListN.{length}
use Rattle.laws.specs.Search.{first}
use Rattle.laws.specs.Sum.{sum_to}
use Rattle.laws.specs.Divisor.{gcd, gcd_of, euclid}
use Rattle.laws.specs.Lists.{tab, sum_of}
use Rattle.laws.proofs.Each.{Each, each_at}
use Rattle.paper.specs.Duties.{same}
use Rattle.paper.specs.Words.{run, Table, covers, held_in, whole, slice, block_length_of}
use Rattle.paper.specs.Sa1.{sa1, lay, lay_one, row_after, unit_after}
use Rattle.paper.specs.Rotation.{link, first_of, next_of, row_at, chain_length, chains_below}
use Rattle.paper.specs.Walk.{walk, loads}
use Rattle.paper.specs.Schedule.{load, loads_in}
use Rattle.paper.specs.Outcome.{answer}
use Rattle.paper.specs.Wanted.{duties_of, in_range, taken}
use Rattle.paper.specs.Builder.{plan, plan_at}
use Rattle.paper.specs.Rules.{before, meet, unordered, overlaps, joins, twice, units_of, judge_duties, judge_runs, judge_table}
use Rattle.paper.specs.Cases.{outcome_for}
use Rattle.paper.specs.LengthCases.{LengthHolds, length_cases, length_case_at, RefusedHolds, refused_cases, refused_case_at}
use Rattle.paper.specs.LengthCases.{JudgeHolds, judge_cases, judge_case_at}
use Rattle.paper.proofs.CasesHold.{table_for, FirstTwo, loads_then_lem, planned}

-- ---- two of the tables, and their loads

-- blocks of 3, and blocks of 1
abbrev in_threes : Table
in_threes = table_for (length_case_at 2).set 3 (run 0 0 0 2 ∷ run 0 1 2 1 ∷ run 1 1 0 1 ∷ run 1 2 1 2 ∷ [])

abbrev in_ones : Table
in_ones = table_for (length_case_at 3).set 1 (run 0 0 0 1 ∷ run 1 1 0 1 ∷ [])

made : (outcome_for 3 (length_case_at 2).set ≡ answer in_threes) × (outcome_for 1 (length_case_at 3).set ≡ answer in_ones)
unfolding plan taken in_range plan_at sa1 lay lay_one row_after unit_after slice whole duties_of tab sum_of first
made = (refl, refl)

first_two : FirstTwo in_threes 4 3 × FirstTwo in_ones 2 0
unfolding loads loads_in load walk row_at next_of first_of link held_in covers same sum_to
first_two = (
  (record { some_tick = omega arith; some_engine = omega arith; no_link = refl }, refl, refl),
  (record { some_tick = omega arith; some_engine = omega arith; no_link = refl }, refl, refl),
)

in_threes_lem : LengthHolds (length_case_at 2)
unfolding chains_below chain_length sum_to first_of link held_in covers same walk row_at next_of slice
in_threes_lem =
    planned 3 (length_case_at 2).set in_threes made.0
    (refl, (refl, (refl, (refl, (loads_then_lem in_threes 4 3 first_two.0, (refl, (refl, tt)))))))

in_ones_lem : LengthHolds (length_case_at 3)
unfolding slice
in_ones_lem = planned 1 (length_case_at 3).set in_ones made.1 (refl, (refl, (refl, (loads_then_lem in_ones 2 0 first_two.1, tt))))

-- ---- all that is stated

lengths_each : Each LengthHolds length_cases
unfolding plan taken in_range plan_at sa1 lay lay_one row_after unit_after slice whole block_length_of gcd_of gcd euclid duties_of tab
    sum_of first
lengths_each = ((refl, (refl, tt)), ((refl, (refl, tt)), (in_threes_lem, (in_ones_lem, ((refl, tt), ((refl, tt), tt))))))

pub lengths_hold : (i : ℕ) → i < length length_cases → LengthHolds (length_case_at i)
lengths_hold = each_at LengthHolds _ length_cases lengths_each

refused_each : Each RefusedHolds refused_cases
unfolding plan taken in_range plan_at slice whole duties_of tab sum_of first
refused_each = (refl, (refl, (refl, (refl, (refl, (refl, (refl, (refl, (refl, (refl, tt))))))))))

pub refused_hold : (i : ℕ) → i < length refused_cases → RefusedHolds (refused_case_at i)
refused_hold = each_at RefusedHolds _ refused_cases refused_each

judged_each : Each JudgeHolds judge_cases
unfolding judge_table judge_duties judge_runs overlaps joins twice meet before unordered units_of whole slice block_length_of gcd_of gcd
    euclid
    first
judged_each = (refl, (refl, (refl, (refl, tt))))

pub judged_hold : (i : ℕ) → i < length judge_cases → JudgeHolds (judge_case_at i)
judged_hold = each_at JudgeHolds _ judge_cases judged_each

-- Document 02, request 6: sets with a wanted block length, planned and refused, and tables whose T is not the greatest common divisor.
-- `proofs/LengthCasesHold.antt` shows that what is stated of them holds.
use Rattle.std.specs.Prelude.{ℕ, ◌≡◌, List, [], ◌∷◌, get_or}
use Rattle.paper.specs.declared.Duty.{Duty}
use Rattle.paper.specs.declared.Run.{Run}
use Rattle.std.specs.Prelude.{Some}
use Rattle.paper.specs.Duties.{engine, duty}
use Rattle.paper.specs.Words.{run, Table}
use Rattle.paper.specs.Rotation.{chain}
use Rattle.paper.specs.Outcome.{Outcome, refused, answer}
use Rattle.paper.specs.Rules.{judge_table}
use Rattle.paper.specs.Wanted.{wanted_of}
use Rattle.paper.specs.Builder.{plan}
use Rattle.paper.specs.Cases.{Case, Fact, HoldsFor, block_length, slices_are, runs_are, chains_are, loads_then, at_tick}

-- ---- what the builder plans

pub record LengthCase : Type 0 where
  -- the wanted block length
  pub wish : ℕ
  pub set : Case

abbrev pub LengthHolds : LengthCase → Type 0
LengthHolds c = HoldsFor c.wish c.set

abbrev length_case : ℕ → ℕ → List Duty → List Fact → LengthCase
length_case w m ds fs = record { wish = w; set = record { engines = m; duties = ds; facts = fs } }

-- three duties of 20 ticks in every 30; two with a half and a third of their periods, 30 being the greatest common divisor
abbrev thirds : List Duty
thirds = duty 20 30 ∷ duty 20 30 ∷ duty 20 30 ∷ []

abbrev half_and_third : List Duty
half_and_third = duty 30 60 ∷ duty 30 90 ∷ []

abbrev pub length_cases : List LengthCase
length_cases =
    -- none wanted; the greatest common divisor by name; a tenth of it, for which the plan is P1's
    length_case 0 2 thirds (block_length 30 ∷ slices_are (20 ∷ 20 ∷ 20 ∷ []) ∷ [])
    ∷ length_case 30 2 thirds (block_length 30 ∷ slices_are (20 ∷ 20 ∷ 20 ∷ []) ∷ [])
    ∷ length_case 3 2 thirds
    (block_length 3 ∷ slices_are (2 ∷ 2 ∷ 2 ∷ [])
    ∷ runs_are (run 0 0 0 2 ∷ run 0 1 2 1 ∷ run 1 1 0 1 ∷ run 1 2 1 2 ∷ [])
    ∷ chains_are (chain 0 2 ∷ []) ∷ loads_then 4 3
    ∷ at_tick 5 (engine 0) (Some 2) ∷ at_tick 5 (engine 1) (Some 1) ∷ [])
    -- blocks of one tick, for duties that run all the time
    ∷ length_case 1 2 (duty 4 4 ∷ duty 6 6 ∷ [])
    (block_length 1 ∷ slices_are (1 ∷ 1 ∷ []) ∷ runs_are (run 0 0 0 1 ∷ run 1 1 0 1 ∷ []) ∷ loads_then 2 0 ∷ [])
    -- two whose slices are whole for 30 and for 6
    ∷ length_case 30 1 half_and_third (slices_are (15 ∷ 10 ∷ []) ∷ [])
    ∷ length_case 6 1 half_and_third (slices_are (3 ∷ 2 ∷ []) ∷ []) ∷ []

-- case i, from 0
abbrev pub length_case_at : ℕ → LengthCase
length_case_at i = get_or length_cases i (length_case 0 0 [] [])

-- ---- what it refuses

pub record RefusedCase : Type 0 where
  pub wish : ℕ
  pub engines : ℕ
  pub duties : List Duty
  pub number : ℕ
  pub place : ℕ

abbrev pub RefusedHolds : RefusedCase → Type 0
RefusedHolds c = plan c.wish (wanted_of c.engines c.duties) ≡ refused c.number c.place

abbrev refused_case : ℕ → ℕ → List Duty → ℕ → ℕ → RefusedCase
refused_case w m ds n p = record { wish = w; engines = m; duties = ds; number = n; place = p }

abbrev pub refused_cases : List RefusedCase
refused_cases =
    -- slices that are not whole for 10, 15 and 1
    refused_case 10 1 half_and_third 6 1
    ∷ refused_case 15 1 half_and_third 6 0
    ∷ refused_case 1 1 half_and_third 6 0
    -- a length that divides one period and not the other; a multiple of the greatest; one above every period
    ∷ refused_case 20 1 half_and_third 24 0
    ∷ refused_case 60 1 half_and_third 24 0
    ∷ refused_case 180 1 half_and_third 24 0
    -- 5 before 24, 24 before 6 and before 7; 7 with a shorter length
    ∷ refused_case 7 1 (duty 3 2 ∷ duty 1 2 ∷ []) 5 0
    ∷ refused_case 4 1 (duty 1 2 ∷ duty 1 3 ∷ []) 24 0
    ∷ refused_case 4 1 (duty 6 6 ∷ duty 6 6 ∷ []) 24 0
    ∷ refused_case 2 1 (duty 6 6 ∷ duty 6 6 ∷ []) 7 0 ∷ []

abbrev pub refused_case_at : ℕ → RefusedCase
refused_case_at i = get_or refused_cases i (refused_case 0 0 [] 0 0)

-- ---- what the judge makes of a table

pub record JudgeCase : Type 0 where
  pub table : Table
  pub ruling : Outcome Table

abbrev pub JudgeHolds : JudgeCase → Type 0
JudgeHolds c = judge_table c.table ≡ c.ruling

-- one duty of 2 ticks in every 4 on one engine, in blocks of t ticks
abbrev pub half_in : ℕ → List Run → Table
half_in t xs = record { ticks = t; engines = 1; duties = duty 2 4 ∷ []; runs = xs }

abbrev pub judge_cases : List JudgeCase
judge_cases =
    -- a table written by hand with a T below the greatest common divisor: it has the second unit, where SA1 gives the first
    record { table = half_in 2 (run 0 0 1 1 ∷ []); ruling = answer (half_in 2 (run 0 0 1 1 ∷ [])) }
    -- a T that does not divide the period, and a multiple of it
    ∷ record { table = half_in 3 (run 0 0 0 1 ∷ []); ruling = refused 11 0 }
    ∷ record { table = half_in 8 (run 0 0 0 4 ∷ []); ruling = refused 11 0 }
    -- a T that divides it, with a slice that is not whole
    ∷ record { table = half_in 1 []; ruling = refused 12 0 } ∷ []

abbrev pub judge_case_at : ℕ → JudgeCase
judge_case_at i = get_or judge_cases i (record { table = half_in 0 []; ruling = refused 0 0 })

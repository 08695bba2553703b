-- Sets of duties whose shares are not whole: 004's table 3 with its figures, refusals in their order, and sets that meet the condition of
-- one of 004's theorems 3.3 and 3.4 and are refused all the same. What can be stated of a set, what it means, and the sets. That all of it
-- holds is shown in `share_laws`, `ShareCasesHold`.
use Rattle.std.specs.Prelude.{ℕ, ◌+◌, ◌*◌, ◌-◌, ◌/◌, ◌%◌, ◌≤◌, ◌<◌, ◌≡◌, true, false, List, [], ◌∷◌, ◌++◌, ◌⊎◌, length, get_or}
use Rattle.laws.specs.Sum.{sum_to}
use Rattle.laws.specs.Lists.{tab, Each}
use Rattle.paper.specs.declared.Engine.{Engine}
use Rattle.paper.specs.declared.Duty.{Duty}
use Rattle.std.specs.Prelude.{None, Some}
use Rattle.paper.specs.Duties.{Held, engine, duty}
use Rattle.paper.specs.Words.{block_length_of}
use Rattle.paper.specs.Outcome.{refused, answer}
use Rattle.paper.specs.Wanted.{Wanted, wanted_of}
use Rattle.paper.specs.Sa2.{Sharing, sharing, duty_count, duty_of, share_of, needs_at, raised_units, allotments}
use Rattle.paper.specs.Shares.{common, blocks, share_schedule, share_loads, overloaded, too_full, share_plan}

-- ---- 004's two conditions

-- theorem 3.3: "U ≤ n", and "(C_i/D_i) ≤ (1 - 1/T), or C_i = D_i, for each task"
abbrev pub Condition33 : Sharing → Type 0
Condition33 s =
    (overloaded s ≡ false)
    × ((i : ℕ) → i < duty_count s
    → (s.ticks * (duty_of s i).service ≤ (s.ticks - 1) * (duty_of s i).period) ⊎ ((duty_of s i).service ≡ (duty_of s i).period))

-- theorem 3.4: "U ≤ n", and "Σ F_i ≤ 1", the fractions of the shares counted over the common multiple
abbrev pub Condition34 : Sharing → Type 0
Condition34 s =
    (overloaded s ≡ false)
    × (sum_to (duty_count s) (λ i. share_of s i % (duty_of s i).period * (common s / (duty_of s i).period)) ≤ common s)

-- ---- what can be stated of a set

-- a need of so many whole units and so many D-ths of one
pub record Need : Type 0 where
  pub whole : ℕ
  pub part : ℕ

abbrev need : ℕ → ℕ → Need
need n f = record { whole = n; part = f }

pub data ShareFact : Type 0 where
  -- it is refused
  not_shared : (number place : ℕ) → ShareFact
  -- it is given: its block length and its blocks
  shared_in : (ticks blocks : ℕ) → ShareFact
  -- what the duties need before a block, and what they are allotted in it
  needing : (block : ℕ) → List Need → ShareFact
  allotted : (block : ℕ) → List ℕ → ShareFact
  -- a duty would get -1 units in a block; the units of a block are more than the engines have
  below_zero : (block duty : ℕ) → ShareFact
  above_all : (block : ℕ) → ShareFact
  -- at a tick an engine has a duty, or is idle
  shared_tick : (tick : ℕ) → Engine → Held → ShareFact
  -- the loads over a number of blocks
  shared_loads : (blocks count : ℕ) → ShareFact
  -- it meets the condition of 004's theorem 3.3, of 3.4
  meets33 : ShareFact
  meets34 : ShareFact

pub record ShareCase : Type 0 where
  pub engines : ℕ
  pub duties : List Duty
  pub room : ℕ
  pub facts : List ShareFact

-- ---- what it means

-- what is wanted, and whose blocks are shared out
abbrev pub wanted_in : ShareCase → Wanted
wanted_in c = wanted_of c.engines c.duties

abbrev pub sharing_in : ShareCase → Sharing
sharing_in c = sharing (block_length_of c.duties) c.engines c.duties

-- needs as they are held: raised by 1, in D-ths
abbrev pub raised_by : Sharing → List Need → List ℕ
raised_by s ns = tab (length ns) (λ i. let x = get_or ns i (need 0 0) in (x.whole + 1) * (duty_of s i).period + x.part)

abbrev pub SaysShares : ShareCase → ShareFact → Type 0
SaysShares c (not_shared n p) = share_plan (wanted_in c) c.room ≡ refused n p
SaysShares c (shared_in t b) = (share_plan (wanted_in c) c.room ≡ answer (sharing_in c)) × ((sharing_in c).ticks ≡ t)
    × (blocks (sharing_in c) ≡ b)
SaysShares c (needing b ns) = needs_at (sharing_in c) b ≡ raised_by (sharing_in c) ns
SaysShares c (allotted b ns) = allotments (sharing_in c) b ≡ ns
SaysShares c (below_zero b i) = raised_units (sharing_in c) (needs_at (sharing_in c) b) i ≡ 0
SaysShares c (above_all b) = too_full (sharing_in c) b ≡ true
SaysShares c (shared_tick k e h) = share_schedule (sharing_in c) e k ≡ h
SaysShares c (shared_loads b n) = share_loads (sharing_in c) b ≡ n
SaysShares c meets33 = Condition33 (sharing_in c)
SaysShares c meets34 = Condition34 (sharing_in c)

abbrev pub HoldsShares : ShareCase → Type 0
HoldsShares c = Each (SaysShares c) c.facts

-- ---- the sets

-- 004, table 3: its "r" for each block (5½ is 10 twentieths, 7⅔ is 20 thirtieths, 6⅙ is 10 sixtieths, and so on), ..
abbrev pub table3_needs : List ShareFact
table3_needs =
    needing 0 (need 6 0 ∷ need 5 10 ∷ need 7 20 ∷ need 3 0 ∷ need 1 20 ∷ need 6 10 ∷ [])
    ∷ needing 1 (need 6 0 ∷ need 5 0 ∷ need 7 10 ∷ need 3 0 ∷ need 2 10 ∷ need 6 20 ∷ [])
    ∷ needing 2 (need 6 0 ∷ need 5 10 ∷ need 7 0 ∷ need 3 0 ∷ need 2 0 ∷ need 6 30 ∷ [])
    ∷ needing 3 (need 6 0 ∷ need 5 0 ∷ need 7 20 ∷ need 3 0 ∷ need 1 20 ∷ need 6 40 ∷ [])
    ∷ needing 4 (need 6 0 ∷ need 5 10 ∷ need 7 10 ∷ need 3 0 ∷ need 1 10 ∷ need 6 50 ∷ [])
    ∷ needing 5 (need 6 0 ∷ need 5 0 ∷ need 7 0 ∷ need 3 0 ∷ need 2 0 ∷ need 7 0 ∷ []) ∷ []

-- .. its "a", ..
abbrev pub table3_units : List ShareFact
table3_units =
    allotted 0 (6 ∷ 6 ∷ 8 ∷ 3 ∷ 1 ∷ 6 ∷ [])
    ∷ allotted 1 (6 ∷ 5 ∷ 8 ∷ 3 ∷ 2 ∷ 6 ∷ [])
    ∷ allotted 2 (6 ∷ 6 ∷ 7 ∷ 3 ∷ 2 ∷ 6 ∷ [])
    ∷ allotted 3 (6 ∷ 5 ∷ 8 ∷ 3 ∷ 2 ∷ 6 ∷ [])
    ∷ allotted 4 (6 ∷ 6 ∷ 8 ∷ 3 ∷ 1 ∷ 6 ∷ [])
    ∷ allotted 5 (6 ∷ 5 ∷ 7 ∷ 3 ∷ 2 ∷ 7 ∷ []) ∷ []

-- .. and who runs at some ticks of block 1, and of the block that repeats it
abbrev pub table3_ticks : List ShareFact
table3_ticks =
    shared_tick 15 (engine 0) (Some 0) ∷ shared_tick 16 (engine 0) (Some 1) ∷ shared_tick 10 (engine 1) (Some 1)
    ∷ shared_tick 12 (engine 2) (Some 4)
    ∷ shared_tick 72 (engine 2) (Some 4) ∷ []

-- "An example where the conditions of Theorem 3.3 is satisfied"
abbrev pub table3 : ShareCase
table3 =
    record {
      engines = 3;
      duties = duty 6 10 ∷ duty 11 20 ∷ duty 23 30 ∷ duty 6 20 ∷ duty 5 30 ∷ duty 37 60 ∷ [];
      room = 36;
      facts = shared_in 10 6 ∷ meets33 ∷ table3_needs ++ table3_units ++ table3_ticks;
    }

-- document 01's P5, which SA1 refuses with 6
abbrev pub p5_shared : ShareCase
p5_shared =
    record {
      engines = 2;
      duties = duty 1 4 ∷ duty 2 6 ∷ [];
      room = 12;
      facts =
          shared_in 2 6
          ∷ allotted 0 (1 ∷ 1 ∷ []) ∷ allotted 1 (0 ∷ 1 ∷ []) ∷ allotted 2 (1 ∷ 0 ∷ [])
          ∷ allotted 3 (0 ∷ 1 ∷ []) ∷ allotted 4 (1 ∷ 1 ∷ []) ∷ allotted 5 (0 ∷ 0 ∷ [])
          ∷ shared_tick 0 (engine 0) (Some 0) ∷ shared_tick 1 (engine 0) (Some 1) ∷ shared_tick 0 (engine 1) None ∷ shared_loads 6 6 ∷ [];
    }

-- the smallest set with 23, which also meets the condition of theorem 3.4: duty 1 was given a unit ahead, needs -1/2 in block 2, and no
-- unit is left for it
abbrev pub smallest23 : ShareCase
smallest23 =
    record {
      engines = 1;
      duties = duty 1 2 ∷ duty 1 6 ∷ duty 1 3 ∷ [];
      room = 18;
      facts = not_shared 23 2 ∷ meets34 ∷ allotted 0 (1 ∷ 0 ∷ 0 ∷ []) ∷ allotted 1 (0 ∷ 1 ∷ 0 ∷ []) ∷ below_zero 2 1 ∷ [];
    }

-- the smallest that meets the condition of theorem 3.3; it meets that of 3.4 too
abbrev pub against33 : ShareCase
against33 =
    record {
      engines = 1;
      duties = duty 3 6 ∷ duty 1 18 ∷ duty 4 9 ∷ [];
      room = 18;
      facts = not_shared 23 2 ∷ meets33 ∷ meets34 ∷ allotted 0 (2 ∷ 0 ∷ 1 ∷ []) ∷ allotted 1 (1 ∷ 1 ∷ 1 ∷ []) ∷ below_zero 2 1 ∷ [];
    }

-- the smallest whose first faulty block is too full, with no duty below 0: in block 2 a unit stays idle while two needs are above T
abbrev pub fullest23 : ShareCase
fullest23 =
    record {
      engines = 3;
      duties = duty 2 3 ∷ duty 2 3 ∷ duty 3 4 ∷ duty 11 12 ∷ [];
      room = 48;
      facts = not_shared 23 11 ∷ allotted 2 (0 ∷ 0 ∷ 1 ∷ 1 ∷ []) ∷ allotted 11 (1 ∷ 1 ∷ 1 ∷ 1 ∷ []) ∷ above_all 11 ∷ [];
    }

-- the order of the refusals: 22 before 7, 7 before 8, 8 before 23
abbrev pub too_long : ShareCase
too_long = record { engines = 1; duties = duty 1 1 ∷ duty 1 4_097 ∷ []; room = 0; facts = not_shared 22 0 ∷ [] }

abbrev pub too_much : ShareCase
too_much = record { engines = 1; duties = duty 1 2 ∷ duty 2 3 ∷ []; room = 0; facts = not_shared 7 0 ∷ [] }

abbrev pub too_short : ShareCase
too_short = record { engines = 1; duties = smallest23.duties; room = 17; facts = not_shared 8 18 ∷ [] }

abbrev pub share_cases : List ShareCase
share_cases = table3 ∷ p5_shared ∷ smallest23 ∷ against33 ∷ fullest23 ∷ too_long ∷ too_much ∷ too_short ∷ []

-- case i, from 0
abbrev pub share_case_at : ℕ → ShareCase
share_case_at i = get_or share_cases i table3

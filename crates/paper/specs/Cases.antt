-- Document 01, "Sets to prove and sets to run": P1 to P10, what the document states of each, and what the statements mean.
-- `proofs/CasesHold.antt` shows that all of them hold.
use Rattle.std.specs.Prelude.{ℕ, ◌+◌, ◌≡◌, List, [], ◌∷◌, eqb, length, get_or}
use Rattle.laws.specs.Choice.{pick}
use Rattle.laws.specs.Lists.{tab, Each}
use Rattle.paper.specs.declared.Row.{Row}
use Rattle.paper.specs.declared.Engine.{Engine}
use Rattle.paper.specs.declared.Duty.{Duty}
use Rattle.paper.specs.declared.Run.{Run}
use Rattle.paper.specs.declared.Chain.{Chain}
use Rattle.std.specs.Prelude.{None, Some}
use Rattle.paper.specs.Duties.{Held, engine, duty}
use Rattle.paper.specs.Words.{row, run, Table}
use Rattle.paper.specs.Sa1.{slices}
use Rattle.paper.specs.Rotation.{chain, link, row_at, chains}
use Rattle.paper.specs.Walk.{walk, loads}
use Rattle.paper.specs.Outcome.{Outcome, refused, answer}
use Rattle.paper.specs.Bytes.{bytes_of}
use Rattle.paper.specs.Wanted.{wanted_of}
use Rattle.paper.specs.Builder.{plan}
use Rattle.paper.specs.Text.{plan_text}

-- ---- what can be stated of a set

pub data Fact : Type 0 where
  -- it is refused
  refused_with : (number place : ℕ) → Fact
  -- else there is a table: its block length, engines, duties and their slices
  block_length : (ticks : ℕ) → Fact
  engine_count : ℕ → Fact
  duties_are : List Duty → Fact
  slices_are : List ℕ → Fact
  -- how many runs; the runs, in table order; a duty's runs by their lengths
  run_count : ℕ → Fact
  runs_are : List Run → Fact
  split : (duty : ℕ) → (lengths : List ℕ) → Fact
  -- the chains, by first row
  chains_are : List Chain → Fact
  -- loads in block 0, then in each later block; and over a number of blocks
  loads_then : (first later : ℕ) → Fact
  loads_over : (blocks count : ℕ) → Fact
  -- at a tick an engine has a duty, or is idle
  at_tick : (tick : ℕ) → Engine → Held → Fact
  -- an engine's rows in blocks 0, 1, 2 and so on
  engine_rows : Engine → List Row → Fact
  -- the table's bytes
  bytes_are : List ℕ → Fact
  -- the whole printed plan
  prints : List ℕ → Fact

-- ---- what it means

-- there is a table, and P holds of it
abbrev pub Gives : Outcome Table → (Table → Type 0) → Type 0
Gives (refused n p) P = ⊥
Gives (answer t) P = P t

-- the lengths of duty i's runs, in table order
unfoldable pub pieces : List Run → ℕ → List ℕ
pieces [] i = []
pieces (x ∷ xs) i = pick (eqb x.duty i) (x.length ∷ pieces xs i) (pieces xs i)

-- the loads of block 0 are a, and every later block adds b
abbrev pub LoadsThen : Table → ℕ → ℕ → Type 0
LoadsThen t a b = (loads t 1 ≡ a) × ((n : ℕ) → loads t (n + 2) ≡ loads t (n + 1) + b)

abbrev pub Says : Outcome Table → Fact → Type 0
Says o (refused_with n p) = o ≡ refused n p
Says o (block_length n) = Gives o (λ t. t.ticks ≡ n)
Says o (engine_count n) = Gives o (λ t. t.engines ≡ n)
Says o (duties_are ds) = Gives o (λ t. t.duties ≡ ds)
Says o (slices_are ns) = Gives o (λ t. slices t.ticks t.duties ≡ ns)
Says o (run_count n) = Gives o (λ t. length t.runs ≡ n)
Says o (runs_are xs) = Gives o (λ t. t.runs ≡ xs)
Says o (split i ns) = Gives o (λ t. pieces t.runs i ≡ ns)
Says o (chains_are cs) = Gives o (λ t. chains t ≡ cs)
Says o (loads_then a b) = Gives o (λ t. LoadsThen t a b)
Says o (loads_over n a) = Gives o (λ t. loads t n ≡ a)
Says o (at_tick k e h) = Gives o (λ t. walk t e k ≡ h)
Says o (engine_rows e rs) = Gives o (λ t. tab (length rs) (λ b. row_at (link t) b e) ≡ rs)
Says o (bytes_are bs) = Gives o (λ t. bytes_of t ≡ bs)
Says o (prints bs) = Gives o (λ t. plan_text t ≡ bs)

pub record Case : Type 0 where
  pub engines : ℕ
  pub duties : List Duty
  pub facts : List Fact

-- what the builder makes of a set with a wanted block length, and with none
abbrev pub outcome_for : ℕ → Case → Outcome Table
outcome_for wish c = plan wish (wanted_of c.engines c.duties)

abbrev pub outcome : Case → Outcome Table
outcome c = outcome_for 0 c

-- all that is stated of a set holds, with a wanted block length, and with none
abbrev pub HoldsFor : ℕ → Case → Type 0
HoldsFor wish c = Each (Says (outcome_for wish c)) c.facts

abbrev pub Holds : Case → Type 0
Holds c = HoldsFor 0 c

-- ---- the table

-- "the output in whole", a line for each of: plan 3 2 3; duty 0 2 3; duty 1 2 3; duty 2 2 3; run 0 0 0 2; run 0 1 2 1; run 1 1 0 1;
-- run 1 2 1 2; chain 0 2; loads 4 3
abbrev pub p1_text : List ℕ
p1_text =
    112 ∷ 108 ∷ 97 ∷ 110 ∷ 32 ∷ 51 ∷ 32 ∷ 50 ∷ 32 ∷ 51 ∷ 10
    ∷ 100 ∷ 117 ∷ 116 ∷ 121 ∷ 32 ∷ 48 ∷ 32 ∷ 50 ∷ 32 ∷ 51 ∷ 10
    ∷ 100 ∷ 117 ∷ 116 ∷ 121 ∷ 32 ∷ 49 ∷ 32 ∷ 50 ∷ 32 ∷ 51 ∷ 10
    ∷ 100 ∷ 117 ∷ 116 ∷ 121 ∷ 32 ∷ 50 ∷ 32 ∷ 50 ∷ 32 ∷ 51 ∷ 10
    ∷ 114 ∷ 117 ∷ 110 ∷ 32 ∷ 48 ∷ 32 ∷ 48 ∷ 32 ∷ 48 ∷ 32 ∷ 50 ∷ 10
    ∷ 114 ∷ 117 ∷ 110 ∷ 32 ∷ 48 ∷ 32 ∷ 49 ∷ 32 ∷ 50 ∷ 32 ∷ 49 ∷ 10
    ∷ 114 ∷ 117 ∷ 110 ∷ 32 ∷ 49 ∷ 32 ∷ 49 ∷ 32 ∷ 48 ∷ 32 ∷ 49 ∷ 10
    ∷ 114 ∷ 117 ∷ 110 ∷ 32 ∷ 49 ∷ 32 ∷ 50 ∷ 32 ∷ 49 ∷ 32 ∷ 50 ∷ 10
    ∷ 99 ∷ 104 ∷ 97 ∷ 105 ∷ 110 ∷ 32 ∷ 48 ∷ 32 ∷ 50 ∷ 10
    ∷ 108 ∷ 111 ∷ 97 ∷ 100 ∷ 115 ∷ 32 ∷ 52 ∷ 32 ∷ 51 ∷ 10 ∷ []

-- "as above; at tick 5 engine 0 has duty 2, engine 1 duty 1": the printed plan, line by line
abbrev pub p1 : Case
p1 =
    record {
      engines = 2;
      duties = duty 2 3 ∷ duty 2 3 ∷ duty 2 3 ∷ [];
      facts =
          block_length 3 ∷ engine_count 2
          ∷ duties_are (duty 2 3 ∷ duty 2 3 ∷ duty 2 3 ∷ [])
          ∷ runs_are (run 0 0 0 2 ∷ run 0 1 2 1 ∷ run 1 1 0 1 ∷ run 1 2 1 2 ∷ [])
          ∷ chains_are (chain 0 2 ∷ [])
          ∷ loads_then 4 3
          ∷ prints p1_text
          ∷ at_tick 5 (engine 0) (Some 2) ∷ at_tick 5 (engine 1) (Some 1) ∷ [];
    }

-- "Case P2 in full, 30 bytes"
abbrev p2_bytes : List ℕ
p2_bytes =
    1 ∷ 1 ∷ 0 ∷ 0 ∷ 0 ∷ 1 ∷ 1
    ∷ 2 ∷ 1 ∷ 0 ∷ 0 ∷ 0 ∷ 1 ∷ 0 ∷ 0 ∷ 0
    ∷ 3 ∷ 0 ∷ 0 ∷ 0 ∷ 0 ∷ 0 ∷ 0 ∷ 1 ∷ 0 ∷ 0 ∷ 0
    ∷ 4 ∷ 1 ∷ 0 ∷ []

-- "loads 1, then 0"
abbrev pub p2 : Case
p2 = record { engines = 1; duties = duty 1 1 ∷ []; facts = loads_then 1 0 ∷ bytes_are p2_bytes ∷ [] }

-- "loads 2, then 2"
abbrev pub p3 : Case
p3 = record { engines = 1; duties = duty 1 2 ∷ duty 1 2 ∷ []; facts = loads_then 2 2 ∷ [] }

-- "7"
abbrev pub p4 : Case
p4 = record { engines = 1; duties = duty 1 1 ∷ duty 1 1 ∷ []; facts = refused_with 7 0 ∷ [] }

-- "6, duty 0"
abbrev pub p5 : Case
p5 = record { engines = 2; duties = duty 1 4 ∷ duty 2 6 ∷ []; facts = refused_with 6 0 ∷ [] }

-- "exact fit: 2 runs, chains of length 1; loads 2, then 1"
abbrev pub p6 : Case
p6 =
    record {
      engines = 2;
      duties = duty 3 3 ∷ duty 2 3 ∷ [];
      facts = run_count 2 ∷ chains_are (chain 0 1 ∷ chain 1 1 ∷ []) ∷ loads_then 2 1 ∷ [];
    }

-- "duty 1 split 2 and 1; at tick 2 engine 1 is idle"
abbrev pub p7 : Case
p7 =
    record {
      engines = 2;
      duties = duty 1 3 ∷ duty 3 3 ∷ duty 1 3 ∷ [];
      facts =
          split 1 (2 ∷ 1 ∷ [])
          ∷ runs_are (run 0 0 0 1 ∷ run 0 1 1 2 ∷ run 1 1 0 1 ∷ run 1 2 1 1 ∷ [])
          ∷ at_tick 2 (engine 1) None ∷ [];
    }

-- "(004, table 1)": "slices 7 4 5 4 2 7 2 9; chains 0-1 and 2-3; loads 10, then 8; 3,362 over 420 blocks"
abbrev pub p8 : Case
p8 =
    record {
      engines = 4;
      duties = duty 21 30 ∷ duty 8 20 ∷ duty 5 10 ∷ duty 8 20 ∷ duty 8 40 ∷ duty 35 50 ∷ duty 12 60 ∷ duty 63 70 ∷ [];
      facts =
          block_length 10
          ∷ slices_are (7 ∷ 4 ∷ 5 ∷ 4 ∷ 2 ∷ 7 ∷ 2 ∷ 9 ∷ [])
          ∷ chains_are (chain 0 2 ∷ chain 2 2 ∷ [])
          ∷ loads_then 10 8 ∷ loads_over 420 3_362 ∷ [];
    }

-- "one chain of 3; engine 0 runs rows 0, 1, 2, 0"
abbrev pub p9 : Case
p9 =
    record {
      engines = 3;
      duties = duty 3 4 ∷ duty 3 4 ∷ duty 3 4 ∷ duty 3 4 ∷ [];
      facts = chains_are (chain 0 3 ∷ []) ∷ engine_rows (engine 0) (row 0 ∷ row 1 ∷ row 2 ∷ row 0 ∷ []) ∷ [];
    }

-- "5, duty 0"
abbrev pub p10 : Case
p10 = record { engines = 1; duties = duty 3 2 ∷ duty 1 0 ∷ []; facts = refused_with 5 0 ∷ [] }

abbrev pub cases : List Case
cases = p1 ∷ p2 ∷ p3 ∷ p4 ∷ p5 ∷ p6 ∷ p7 ∷ p8 ∷ p9 ∷ p10 ∷ []

-- case i, from 0
abbrev pub case_at : ℕ → Case
case_at i = get_or cases i p1

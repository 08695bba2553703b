-- Document 01, "Refusal numbers": what a call comes to, and how the code's answers read in its words. "Each refusal carries a number and a
-- place (0 where none is named)."
use Rattle.std.specs.Prelude.{ℕ, ◌≡◌, Result, Ok, Err, ⊤, List, length}
use Rattle.laws.specs.Lists.{over}
use Rattle.paper.specs.declared.Fault.{Fault}
use Rattle.paper.specs.declared.Fault.TheVariants.{Form, BlockLength as Undivided, Slice, Order, Overlap, Joint, Twice}
use Rattle.paper.specs.declared.Fault.TheVariants.{Service as OffService}
use Rattle.paper.specs.declared.Refusal.{Refusal}
use Rattle.paper.specs.declared.Refusal.TheVariants.{Engines, Lengths, Duties, Period, Service, PartSlice, Overload, Room, Input}
use Rattle.paper.specs.declared.Refusal.TheVariants.{Table, NoEngine, ManyBlocks, StrangeState, LastBlock, ManyShareBlocks, ShareBlock}
use Rattle.paper.specs.declared.Refusal.TheVariants.{BlockLength, Lent}
use Rattle.paper.specs.declared.Reading.{Reading}

pub data Outcome (A : Type 0) : Type 0 where
  refused : ℕ → ℕ → Outcome A
  answer : A → Outcome A

-- what is done with an answer; a refusal stays
abbrev pub and_then : {A B : Type 0} → Outcome A → (A → Outcome B) → Outcome B
and_then (refused n p) f = refused n p
and_then (answer a) f = f a

-- ---- refusals

-- a table's faults by their numbers, 10 to 17, ..
abbrev pub fault_number : Fault → ℕ
fault_number (Form at) = 10
fault_number Undivided = 11
fault_number (Slice d) = 12
fault_number (Order k) = 13
fault_number (Overlap k) = 14
fault_number (Joint k) = 15
fault_number (Twice k) = 16
fault_number (OffService d) = 17

-- .. each with the record's offset, the duty or the run
abbrev pub fault_place : Fault → ℕ
fault_place (Form at) = at
fault_place Undivided = 0
fault_place (Slice d) = d
fault_place (Order k) = k
fault_place (Overlap k) = k
fault_place (Joint k) = k
fault_place (Twice k) = k
fault_place (OffService d) = d

-- every refusal by its number, ..
abbrev pub number_of : Refusal → ℕ
number_of Engines = 1
number_of Lengths = 2
number_of Duties = 3
number_of (Period d) = 4
number_of (Service d) = 5
number_of (PartSlice d) = 6
number_of Overload = 7
number_of (Room needed) = 8
number_of (Input line) = 9
number_of (Table f) = fault_number f
number_of NoEngine = 18
number_of ManyBlocks = 19
number_of StrangeState = 20
number_of LastBlock = 21
number_of ManyShareBlocks = 22
number_of (ShareBlock b) = 23
number_of BlockLength = 24
number_of (Lent needed) = 255

-- .. and its place, "0 where none is named"
abbrev pub place_of : Refusal → ℕ
place_of Engines = 0
place_of Lengths = 0
place_of Duties = 0
place_of (Period d) = d
place_of (Service d) = d
place_of (PartSlice d) = d
place_of Overload = 0
place_of (Room needed) = needed
place_of (Input line) = line
place_of (Table f) = fault_place f
place_of NoEngine = 0
place_of ManyBlocks = 0
place_of StrangeState = 0
place_of LastBlock = 0
place_of ManyShareBlocks = 0
place_of (ShareBlock b) = b
place_of BlockLength = 0
place_of (Lent needed) = needed

-- what a refusal reads as
abbrev pub refused_as : {A : Type 0} → Refusal → Outcome A
refused_as x = refused (number_of x) (place_of x)

-- ---- answers

-- a call's answer, or its refusal
abbrev pub outcome_of : {A : Type 0} → Result A Refusal → Outcome A
outcome_of (Ok a) = answer a
outcome_of (Err x) = refused_as x

-- a verdict, with what stands beside it
abbrev pub verdict_as : {A : Type 0} → Result ⊤ Refusal → A → Outcome A
verdict_as (Ok u) a = answer a
verdict_as (Err x) a = refused_as x

-- ---- whatever writes

-- it answers how much it writes, ..
abbrev pub length_of : Outcome (List ℕ) → Outcome ℕ
length_of o = and_then o (λ w. answer (length w))

-- .. and leaves that over the front of the lent buffer. "Refusals write nothing"; "the bytes past it stay"
abbrev pub leaves : Outcome (List ℕ) → List ℕ → List ℕ
leaves (refused n p) l = l
leaves (answer w) l = over w l

-- both: the answer r, and the lent buffer before and after
pub record Writes (o : Outcome (List ℕ)) (r : Result ℕ Refusal) (before after : List ℕ) : Type 0 where
  pub said : outcome_of r ≡ length_of o
  pub left : after ≡ leaves o before

-- what cannot be refused: the text is laid over the front of the buffer, and n is its length
abbrev pub Puts : (text before after : List ℕ) (n : ℕ) → Type 0
Puts text before after n = (n ≡ length text) × (after ≡ over text before)

-- ---- the judge

-- "either the reading (T, engines, duties, number of runs) or a fault"
abbrev pub judged_as : Result Reading Fault → Outcome Reading
judged_as (Ok r) = answer r
judged_as (Err f) = refused_as (Table f)

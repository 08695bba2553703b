-- Each outside call's promise leaves one outcome alone: one answer, and one content of whatever was lent. A promise is an equation of what
-- an answer reads as, and each reading has a way back, so no two answers read the same; what was lent is given by an equation outright. And
-- a word of the face says what it stands for: 0 is an answer; else the low eight bits are the refusal's number and what is above them its
-- place.
-- Assumes nothing.
use Prim.Native.Nat.{ℕ, ◌+◌, ◌*◌, ◌≤◌, ◌<◌}
use mathlib.Core.Path.{◌≡◌, refl, sym, ap, ◌∙◌}
use mathlib.Core.List.{List, [], ◌∷◌}
use mathlib.Core.Logic.{⊎_elim}
use native.Mathlib.Omega.{arith}
use lib.Dec.{ltb, eqb}
use lib.ListN.{length}
use Rattle.std.specs.Prelude.{⊤, Result, Ok, Err}
use Rattle.laws.specs.Choice.{pick}
use Rattle.laws.proofs.Cases.{by_cases, one_to_one}
use Rattle.paper.specs.declared.Row.{Row}
use Rattle.paper.specs.declared.Reading.{Reading}
use Rattle.paper.specs.declared.Refusal.{Refusal}
use Rattle.paper.specs.declared.Fault.{Fault}
use Rattle.paper.specs.declared.Fault.TheVariants.{Form, BlockLength as Undivided, Slice, Order, Overlap, Joint, Twice}
use Rattle.paper.specs.declared.Fault.TheVariants.{Service as OffService}
use Rattle.paper.specs.declared.Refusal.TheVariants.{Engines, Lengths, Duties, Period, Service, PartSlice, Overload, Room, Input}
use Rattle.paper.specs.declared.Refusal.TheVariants.{Table, NoEngine, ManyBlocks, StrangeState, LastBlock, ManyShareBlocks, ShareBlock}
use Rattle.paper.specs.declared.Refusal.TheVariants.{BlockLength, Lent}
use Rattle.paper.specs.declared.Reply.{Reply}
use Rattle.paper.specs.declared.ShareReading.{ShareReading}
use Rattle.paper.specs.declared.State.{State}
use Rattle.paper.specs.declared.Dispatched.{Dispatched}
use Rattle.paper.specs.Outcome.{Outcome, refused, answer, fault_number, fault_place, number_of, place_of, outcome_of, verdict_as, leaves}
use Rattle.paper.specs.Outcome.{Writes, judged_as}
use Rattle.paper.specs.Wanted.{Wanted}
use Rattle.paper.specs.Answers.{Hands}
use Rattle.paper.specs.Sa2.{Sharing}
use Rattle.paper.specs.Shares.{GivesShares}
use Rattle.paper.specs.Face.{shares_call, shares_entries, shares_left, share_at_call}
use Rattle.paper.specs.Limits.{word_room, reading_room, reply_room, share_reading_room, state_room}
use Rattle.paper.specs.Duties.{Held, engine}
use Rattle.paper.specs.Face.{state_entries, state_in}
use Rattle.paper.specs.Face.{Tells, word_of, entries, needing, build_call, build_entries, judge_call, question_call, start_call, row_call}
use Rattle.paper.specs.Face.{next_call, count_call}
use Rattle.paper.proofs.Outcomes.{answered, refused_one}
use Rattle.plan_laws.proofs.Listed.{Listed, judged_listed, build_listed, question_listed, start_listed, row_listed, next_listed}
use Rattle.plan_laws.proofs.Listed.{counted_listed}
use Rattle.share_laws.proofs.SharesListed.{shares_listed, share_question_listed}

-- ---- the way back, from an outcome to the answer that reads as it

-- the fault of a number and a place
fault_for : ℕ → ℕ → Fault
fault_for n p =
    pick (eqb n 10) (Form p)
    (pick (eqb n 11) Undivided
    (pick (eqb n 12) (Slice p)
    (pick (eqb n 13) (Order p)
    (pick (eqb n 14) (Overlap p)
    (pick (eqb n 15) (Joint p) (pick (eqb n 16) (Twice p) (OffService p)))))))

fault-back : (f : Fault) → fault_for (fault_number f) (fault_place f) ≡ f
unfolding fault_for
fault-back (Form at) = refl
fault-back Undivided = refl
fault-back (Slice d) = refl
fault-back (Order k) = refl
fault-back (Overlap k) = refl
fault-back (Joint k) = refl
fault-back (Twice k) = refl
fault-back (OffService d) = refl

-- the refusal of a number and a place: those of a table stand between
refusal_for : ℕ → ℕ → Refusal
refusal_for n p =
    pick (eqb n 1) Engines
    (pick (eqb n 2) Lengths
    (pick (eqb n 3) Duties
    (pick (eqb n 4) (Period p)
    (pick (eqb n 5) (Service p)
    (pick (eqb n 6) (PartSlice p)
    (pick (eqb n 7) Overload
    (pick (eqb n 8) (Room p)
    (pick (eqb n 9) (Input p)
    (pick (eqb n 18) NoEngine
    (pick (eqb n 19) ManyBlocks
    (pick (eqb n 20) StrangeState
    (pick (eqb n 21) LastBlock
    (pick (eqb n 22) ManyShareBlocks
    (pick (eqb n 23) (ShareBlock p) (pick (eqb n 24) BlockLength (pick (eqb n 255) (Lent p) (Table (fault_for n p))))))))))))))))))

table_back : (f : Fault) → refusal_for (fault_number f) (fault_place f) ≡ Table f
unfolding refusal_for fault_for
table_back (Form at) = refl
table_back Undivided = refl
table_back (Slice d) = refl
table_back (Order k) = refl
table_back (Overlap k) = refl
table_back (Joint k) = refl
table_back (Twice k) = refl
table_back (OffService d) = refl

refusal_back : (x : Refusal) → refusal_for (number_of x) (place_of x) ≡ x
unfolding refusal_for
refusal_back Engines = refl
refusal_back Lengths = refl
refusal_back Duties = refl
refusal_back (Period d) = refl
refusal_back (Service d) = refl
refusal_back (PartSlice d) = refl
refusal_back Overload = refl
refusal_back (Room needed) = refl
refusal_back (Input line) = refl
refusal_back (Table f) = table_back f
refusal_back NoEngine = refl
refusal_back ManyBlocks = refl
refusal_back StrangeState = refl
refusal_back LastBlock = refl
refusal_back ManyShareBlocks = refl
refusal_back (ShareBlock b) = refl
refusal_back BlockLength = refl
refusal_back (Lent needed) = refl

-- the result of an outcome
result_for : {A : Type 0} → Outcome A → Result A Refusal
result_for (refused n p) = Err (refusal_for n p)
result_for (answer a) = Ok a

result_back : {A : Type 0} (x : Result A Refusal) → result_for (outcome_of x) ≡ x
unfolding result_for
result_back (Ok a) = refl
result_back (Err x) = ap Err (refusal_back x)

judged_for : Outcome Reading → Result Reading Fault
judged_for (refused n p) = Err (fault_for n p)
judged_for (answer r) = Ok r

judged-back : (x : Result Reading Fault) → judged_for (judged_as x) ≡ x
unfolding judged_for
judged-back (Ok r) = refl
judged-back (Err f) = ap Err (fault-back f)

verdict_for : {A : Type 0} → Outcome A → Result ⊤ Refusal
verdict_for (refused n p) = Err (refusal_for n p)
verdict_for (answer a) = Ok tt

verdict_back : (s : State) (v : Result ⊤ Refusal) → verdict_for (verdict_as v s) ≡ v
unfolding verdict_for
verdict_back s (Ok u) = refl
verdict_back s (Err x) = ap Err (refusal_back x)

-- ---- one outcome

-- whatever answers or is refused
pub outcome_one : {A : Type 0} {o : Outcome A} {x y : Result A Refusal} → outcome_of x ≡ o → outcome_of y ≡ o → x ≡ y
outcome_one p q = one_to_one outcome_of result_for result_back (p ∙ sym q)

-- the judge
pub judged_one : {x y : Result Reading Fault} {o : Outcome Reading} → judged_as x ≡ o → judged_as y ≡ o → x ≡ y
judged_one p q = one_to_one judged_as judged_for judged-back (p ∙ sym q)

-- whatever writes: the builder, and the text of a plan
pub written_one : {o : Outcome (List ℕ)} {x y : Result ℕ Refusal} {before a b : List ℕ} → Writes o x before a → Writes o y before b
    → (x ≡ y) × (a ≡ b)
written_one p q = (outcome_one p.said q.said, p.left ∙ sym q.left)

-- the question
pub reply_one : {x y : Result Reply Refusal} {o : Outcome Reply} → outcome_of x ≡ o → outcome_of y ≡ o → x ≡ y
reply_one p q = outcome_one p q

-- the dispatcher: the verdict and the whole state, on a refusal too; and the row of an engine
pub dispatched_one : {o : Outcome State} {x y : Dispatched} → Hands o x → Hands o y → x ≡ y
dispatched_one {o} {x} {y} p q =
    let s : x.state ≡ y.state = p.holds ∙ sym q.holds in
    let v : x.verdict ≡ y.verdict =
    one_to_one (λ w. verdict_as w y.state) verdict_for (verdict_back y.state)
    (ap (verdict_as x.verdict) (sym s) ∙ p.said ∙ sym q.said) in
    λ i. record { verdict = v i; state = s i }

pub row-told_one : {x y : Result Row Refusal} {o : Outcome Row} → outcome_of x ≡ o → outcome_of y ≡ o → x ≡ y
row-told_one p q = outcome_one p q

-- the count
pub counted_one : {x y : Result ℕ Refusal} {o : Outcome ℕ} → outcome_of x ≡ o → outcome_of y ≡ o → x ≡ y
counted_one p q = outcome_one p q

-- the builder of shares, and the question to its plan
pub shares_one : {o : Outcome Sharing} {x y : Result ShareReading Refusal} {before a b : List ℕ} → GivesShares o x before a
    → GivesShares o y before b → (x ≡ y) × (a ≡ b)
shares_one p q = (outcome_one p.said q.said, p.left ∙ sym q.left)

pub share_answer_one : {x y : Result Held Refusal} {o : Outcome Held} → outcome_of x ≡ o → outcome_of y ≡ o → x ≡ y
share_answer_one p q = outcome_one p q

-- every call of the face: one word, and one state of what was lent; of the builder's the table too, of the builder of shares' the list
pub told_one :
    {o : Outcome (List ℕ)} {before : List ℕ} {word word' : ℕ} {after after' : List ℕ} → Tells o word before after
    → Tells o word' before after' → (word ≡ word') × (after ≡ after')
told_one t t' = (t.said ∙ sym t'.said, t.left ∙ sym t'.left)

pub built_one :
    (o : Outcome (List ℕ)) (table : List ℕ) {lent : List ℕ} {word word' : ℕ} {left left' bytes bytes' : List ℕ}
    → Tells (build_entries o) word lent left × (bytes ≡ leaves o table) → Tells (build_entries o) word' lent left'
    × (bytes' ≡ leaves o table)
    → (word ≡ word') × (left ≡ left') × (bytes ≡ bytes')
built_one o table t t' = let z = told_one t.0 t'.0 in (z.0, z.1, t.1 ∙ sym t'.1)

pub shared_one :
    (o : Outcome Sharing) (list : List ℕ) {lent : List ℕ} {word word' : ℕ} {left left' entries entries' : List ℕ}
    → Tells (shares_entries o) word lent left × (entries ≡ leaves (shares_left o) list)
    → Tells (shares_entries o) word' lent left' × (entries' ≡ leaves (shares_left o) list)
    → (word ≡ word') × (left ≡ left') × (entries ≡ entries')
shared_one o list t t' = let z = told_one t.0 t'.0 in (z.0, z.1, t.1 ∙ sym t'.1)

-- ---- what a word says

-- a number that fits a byte, and a place: the word tells both
pub parts_one : (n p k q : ℕ) → n < 256 → k < 256 → n + 256 * p ≡ k + 256 * q → (n ≡ k) × (p ≡ q)
parts_one n p k q h l e = omega arith

-- refusals have a number from 1 to 255
abbrev pub Numbered : {A : Type 0} → Outcome A → Type 0
Numbered o = (n p : ℕ) → o ≡ refused n p → (1 ≤ n) × (n < 256)

-- so two outcomes with the same word are both answers, or the same refusal
pub word_one : (x y : Outcome (List ℕ)) → Numbered x → Numbered y → word_of x ≡ word_of y → (n p : ℕ) → x ≡ refused n p → y ≡ refused n p
word_one x (refused k q) f g e n p h =
    let w : n + 256 * p ≡ k + 256 * q = ap word_of (sym h) ∙ e in
    let z = parts_one n p k q (f n p h).1 (g k q refl).1 w in
    rw (z.0, z.1)
word_one x (answer a) f g e n p h =
    let w : n + 256 * p ≡ 0 = ap word_of (sym h) ∙ e in
    absurd (omega (arith, w, (f n p h).0))

-- a lent list may be too short
numbered_needing : {A : Type 0} (k : ℕ) (lent : List ℕ) (o : Outcome A) → Numbered o → Numbered (needing k lent o)
numbered_needing {A} k lent o f n p =
    by_cases (ltb (length lent) k)
    (λ h. rw h (λ e. let z = refused_one {A = A} 255 k n p e in omega (arith, z.0)))
    (λ h. rw h (f n p))

-- what is listed has a number
numbered_listed : {A : Type 0} {P : ℕ → Type 0} (o : Outcome A) → ((n : ℕ) → P n → 1 ≤ n) → Listed P o → Numbered o
numbered_listed o i l n p e = let z = l n p e in (i n z.listed, z.byte)

numbered_entries : {A : Type 0} (f : A → List ℕ) (o : Outcome A) → Numbered o → Numbered (entries f o)
numbered_entries f (refused k q) g n p e =
    let z = refused_one k q n p e in
    let m = g k q refl in
    omega (arith, z.0, m.0, m.1)
numbered_entries f (answer a) g n p e = answered (f a) n p e

-- ---- and so has each call's

pub build_numbered : (wish : ℕ) (x : Wanted) (table lent : List ℕ) → Numbered (build_call wish x table lent)
build_numbered wish x table lent =
    numbered_needing word_room lent _
    (numbered_listed _ (λ n. ⊎_elim (λ l. omega arith) (λ l. omega arith)) (build_listed wish x (length table)))

pub judge_numbered : (b lent : List ℕ) → Numbered (judge_call b lent)
judge_numbered b lent = numbered_needing reading_room lent _
    (numbered_entries _ _ (numbered_listed _ (λ n l. omega arith) (judged_listed b)))

pub question_numbered : (b : List ℕ) (e k : ℕ) (lent : List ℕ) → Numbered (question_call b e k lent)
question_numbered b e k lent = numbered_needing reply_room lent _
    (numbered_entries _ _ (numbered_listed _ (λ n l. omega arith) (question_listed b _ k)))

pub start_numbered : (b : List ℕ) (k : ℕ) (lent : List ℕ) → Numbered (start_call b k lent)
start_numbered b k lent = numbered_needing state_room lent _
    (numbered_entries _ _ (numbered_listed _ (λ n l. omega arith) (start_listed b k)))

pub row_numbered : (b state : List ℕ) (e : ℕ) (lent : List ℕ) → Numbered (row_call b state e lent)
row_numbered b state e lent =
    numbered_needing state_room state _ (numbered_needing word_room lent _
    (numbered_entries (λ r. r.0 ∷ []) _
    (numbered_listed _ (λ n. ⊎_elim (λ l. omega arith) (λ l. omega arith)) (row_listed b (state_in state) (engine e)))))

pub next_numbered : (b state : List ℕ) → Numbered (next_call b state)
next_numbered b state =
    numbered_needing state_room state _ (numbered_entries state_entries _
    (numbered_listed _ (λ n. ⊎_elim (λ l. omega arith) (λ l. omega arith)) (next_listed b (state_in state))))

pub count_numbered : (b : List ℕ) (k : ℕ) (lent : List ℕ) → Numbered (count_call b k lent)
count_numbered b k lent =
    numbered_needing word_room lent _
    (numbered_entries _ _ (numbered_listed _ (λ n. ⊎_elim (λ l. omega arith) (λ l. omega arith)) (counted_listed b k)))

pub shares_numbered : (x : Wanted) (list lent : List ℕ) → Numbered (shares_call x list lent)
shares_numbered x list lent =
    numbered_needing share_reading_room lent _
    (numbered_listed _ (λ n. ⊎_elim (λ l. omega arith) (⊎_elim (λ l. omega arith) (λ l. omega arith))) (shares_listed x (length list)))

pub share_at_numbered : (x : Wanted) (e k : ℕ) (lent : List ℕ) → Numbered (share_at_call x e k lent)
share_at_numbered x e k lent =
    numbered_needing word_room lent _
    (numbered_entries _ _
    (numbered_listed _
    (λ n. ⊎_elim (λ l. omega arith) (⊎_elim (λ l. omega arith) (⊎_elim (λ l. omega arith) (λ l. omega arith))))
    (share_question_listed x _ k)))

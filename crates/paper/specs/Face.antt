-- The outside face for C and Rust: how an outcome is handed over as a returned word and the entries of a lent answer.
use Rattle.std.specs.Prelude.{ℕ, ◌+◌, ◌*◌, ◌-◌, ◌^◌, ◌≡◌, List, [], ◌∷◌, ltb, length, get_or}
use Rattle.laws.specs.Choice.{pick}
use Rattle.laws.specs.Lists.{tab}
use Rattle.std.specs.Prelude.{None, Some}
use Rattle.paper.specs.declared.Reading.{Reading}
use Rattle.paper.specs.declared.Reply.{Reply}
use Rattle.paper.specs.declared.State.{State}
use Rattle.paper.specs.Duties.{Held, engine}
use Rattle.paper.specs.Words.{row, row_numbers}
use Rattle.paper.specs.Outcome.{Outcome, refused, answer, and_then, leaves}
use Rattle.paper.specs.Limits.{most_engines, word_room, reading_room, reply_room, state_room, share_reading_room}
use Rattle.paper.specs.Wanted.{Wanted}
use Rattle.paper.specs.Builder.{build}
use Rattle.paper.specs.Rules.{judged}
use Rattle.paper.specs.Answers.{question, start, row_told, advanced, counted}
use Rattle.paper.specs.declared.ShareReading.{ShareReading}
use Rattle.paper.specs.Sa2.{Sharing}
use Rattle.paper.specs.Shares.{share_list, reading_of_shares, share_plan, share_question}

-- ---- words and entries

-- the returned word: 0, or the refusal's number in the low eight bits and its place above them
abbrev pub word_of : Outcome (List ℕ) → ℕ
word_of (refused n p) = n + 256 * p
word_of (answer a) = 0

-- what a call leaves: the word, and its entries over the front of the lent answer; a refusal leaves the answer
pub record Tells (o : Outcome (List ℕ)) (word : ℕ) (before after : List ℕ) : Type 0 where
  pub said : word ≡ word_of o
  pub left : after ≡ leaves o before

-- the answer as entries
abbrev pub entries : {A : Type 0} → (A → List ℕ) → Outcome A → Outcome (List ℕ)
entries f o = and_then o (λ a. answer (f a))

-- 255, place: the entries needed, where a lent answer or state is too short; looked for first
abbrev pub needing : {A : Type 0} → ℕ → List ℕ → Outcome A → Outcome A
needing n lent rest = pick (ltb (length lent) n) (refused 255 n) rest

-- a reading: block length, engines, duties, runs
abbrev pub reading_entries : Reading → List ℕ
reading_entries rd = rd.block_length ∷ rd.engines ∷ rd.duties ∷ rd.runs ∷ []

-- a reply: the row, and the duty or the mark for idle
abbrev pub held_entry : Held → ℕ
held_entry None = 2 ^ 64 - 1
held_entry (Some i) = i

abbrev pub reply_entries : Reply → List ℕ
reply_entries r = r.row.0 ∷ held_entry r.held ∷ []

-- a dispatcher's state: the block, then 32 rows; and the state in such entries
abbrev pub state_entries : State → List ℕ
state_entries s = s.block ∷ row_numbers s.rows

abbrev pub state_in : List ℕ → State
state_in l = record { block = get_or l 0 0; rows = tab most_engines (λ e. row (get_or l (e + 1) 0)) }

-- ---- the calls

-- the builder: the table's bytes; its answer is their number
abbrev pub build_call : ℕ → Wanted → List ℕ → List ℕ → Outcome (List ℕ)
build_call wish x table lent = needing word_room lent (build wish x (length table))

abbrev pub build_entries : Outcome (List ℕ) → Outcome (List ℕ)
build_entries o = entries (λ w. length w ∷ []) o

-- the judge: the reading
abbrev pub judge_call : List ℕ → List ℕ → Outcome (List ℕ)
judge_call b lent = needing reading_room lent (entries reading_entries (judged b))

-- the question: the reply
abbrev pub question_call : List ℕ → ℕ → ℕ → List ℕ → Outcome (List ℕ)
question_call b e k lent = needing reply_room lent (entries reply_entries (question b (engine e) k))

-- the dispatcher: its state
abbrev pub start_call : List ℕ → ℕ → List ℕ → Outcome (List ℕ)
start_call b k lent = needing state_room lent (entries state_entries (start b k))

abbrev pub row_call : List ℕ → List ℕ → ℕ → List ℕ → Outcome (List ℕ)
row_call b state e lent =
    needing state_room state (needing word_room lent (entries (λ r. r.0 ∷ []) (row_told b (state_in state) (engine e))))

abbrev pub next_call : List ℕ → List ℕ → Outcome (List ℕ)
next_call b state = needing state_room state (entries state_entries (advanced b (state_in state)))

-- the count: the loads
abbrev pub count_call : List ℕ → ℕ → List ℕ → Outcome (List ℕ)
count_call b n lent = needing word_room lent (entries (λ x. x ∷ []) (counted b n))

-- the builder of shares: its answer is the reading, that is entries, block length and blocks; the lent list has the allotments over its
-- front
abbrev pub share_reading_entries : ShareReading → List ℕ
share_reading_entries rd = rd.entries ∷ rd.block_length ∷ rd.blocks ∷ []

abbrev pub shares_call : Wanted → List ℕ → List ℕ → Outcome Sharing
shares_call x list lent = needing share_reading_room lent (share_plan x (length list))

abbrev pub shares_entries : Outcome Sharing → Outcome (List ℕ)
shares_entries o = entries (λ s. share_reading_entries (reading_of_shares s)) o

abbrev pub shares_left : Outcome Sharing → Outcome (List ℕ)
shares_left o = entries share_list o

-- the question to a plan of shares: the duty or the mark for idle
abbrev pub share_at_call : Wanted → ℕ → ℕ → List ℕ → Outcome (List ℕ)
share_at_call x e k lent = needing word_room lent (entries (λ h. held_entry h ∷ []) (share_question x (engine e) k))

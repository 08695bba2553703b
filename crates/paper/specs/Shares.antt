-- Document 02, request 3: plans for duties whose share of a block is not whole, by SA2. The schedule of such a plan, its refusals, the list
-- of allotments and the direct question.
use Rattle.std.specs.Prelude.{ℕ, ◌+◌, ◌*◌, ◌-◌, ◌/◌, ◌%◌, ◌≡◌, Bool, not, ◌&&◌, ◌||◌, Result, List, ltb, eqb, get_or}
use Rattle.laws.specs.Choice.{pick}
use Rattle.laws.specs.Search.{first, any}
use Rattle.laws.specs.Sum.{sum_to}
use Rattle.laws.specs.Divisor.{lcm_of}
use Rattle.laws.specs.Lists.{tab, flat, sum_of}
use Rattle.paper.specs.declared.Engine.{Engine}
use Rattle.paper.specs.declared.Refusal.{Refusal}
use Rattle.paper.specs.declared.ShareReading.{ShareReading}
use Rattle.paper.specs.Duties.{Held, periods_of, asked_in}
use Rattle.paper.specs.Words.{row, held_in, block_length_of}
use Rattle.paper.specs.Schedule.{Schedule, loads_in}
use Rattle.paper.specs.Limits.{most_share_blocks}
use Rattle.paper.specs.Outcome.{Outcome, refused, answer, and_then, outcome_of, leaves}
use Rattle.paper.specs.Bytes.{within}
use Rattle.paper.specs.Wanted.{Wanted, taken}
use Rattle.paper.specs.Answers.{of_engine}
use Rattle.paper.specs.Sa2.{Sharing, sharing, duty_count, duty_of, needs_at, raised_units, allotments, laid_out}

-- ---- the schedule

-- "until the periods' least common multiple"
unfoldable pub common : Sharing → ℕ
common s = lcm_of (periods_of s.duties)

-- the blocks up to there
unfoldable pub blocks : Sharing → ℕ
blocks s = common s / s.ticks

-- "laying out each block in turn, repeating after the common multiple"; "engine i keeps row i"
unfoldable pub share_schedule : Sharing → Schedule
share_schedule s e k = held_in (laid_out s (k / s.ticks % blocks s)) (row e.0) (k % s.ticks)

-- "Loads are counted only by definition": those of the first b blocks
unfoldable pub share_loads : Sharing → ℕ → ℕ
share_loads s b = loads_in s.engines (share_schedule s) (b * s.ticks)

-- ---- what 7 and 23 look at

-- "the sum of C/D is above the engines": what the duties ask for up to the common multiple is more than the engines have there
unfoldable pub overloaded : Sharing → Bool
overloaded s = ltb (s.engines * common s) (asked_in (common s) s.duties)

-- "the steps would give some duty fewer than 0 units or more than T", ..
unfoldable pub off_range : Sharing → ℕ → ℕ → Bool
off_range s b i = not (within 1 (s.ticks + 1) (raised_units s (needs_at s b) i))

-- .. "a block more than engines·T", ..
unfoldable pub too_full : Sharing → ℕ → Bool
too_full s b = ltb (s.engines * s.ticks) (sum_of (allotments s b))

-- .. "or a job that ends with the block other than its service": the units that duty i gets in the D/T blocks up to block b
unfoldable pub job_units : Sharing → ℕ → ℕ → ℕ
job_units s b i = let n = (duty_of s i).period / s.ticks in sum_to n (λ j. get_or (allotments s (b + 1 - n + j)) i 0)

unfoldable pub off_service : Sharing → ℕ → ℕ → Bool
off_service s b i = eqb ((b + 1) * s.ticks % (duty_of s i).period) 0 && not (eqb (job_units s b i) (duty_of s i).service)

unfoldable pub block_fails : Sharing → ℕ → Bool
block_fails s b = any (off_range s b) (duty_count s) || too_full s b || any (off_service s b) (duty_count s)

-- "the first such block", or how many blocks there are
unfoldable pub failing : Sharing → ℕ
failing s = first (block_fails s) (blocks s)

-- ---- the refusals

-- "22, more than 4,096 blocks up to the common multiple, after 5 and before 7; then 7"; 6 is not given here
unfoldable pub sharable : Sharing → Outcome Sharing
sharable s = pick (ltb most_share_blocks (blocks s)) (refused 22 0) (pick (overloaded s) (refused 7 0) (answer s))

abbrev pub shared : Wanted → Outcome Sharing
shared x = and_then (taken x) (λ ds. sharable (sharing (block_length_of ds) x.engines ds))

-- "8, the lent list too short (place: entries needed)"
abbrev pub entries_needed : Sharing → ℕ
entries_needed s = blocks s * duty_count s

abbrev pub roomy : ℕ → Sharing → Outcome Sharing
roomy room s = pick (ltb room (entries_needed s)) (refused 8 (entries_needed s)) (answer s)

-- "23 .. placed by the first such block"
abbrev pub steady : Sharing → Outcome Sharing
steady s = pick (ltb (failing s) (blocks s)) (refused 23 (failing s)) (answer s)

-- ---- the builder of shares

-- "The allotments go to a lent list, block by block"
unfoldable pub share_list : Sharing → List ℕ
share_list s = flat (allotments s) (tab (blocks s) (λ b. b))

-- with room for so many entries
abbrev pub share_plan : Wanted → ℕ → Outcome Sharing
share_plan x room = and_then (and_then (shared x) (roomy room)) steady

-- what is told of it: the entries written, the block length, the blocks
abbrev pub reading_of_shares : Sharing → ShareReading
reading_of_shares s = record { entries = entries_needed s; block_length = s.ticks; blocks = blocks s }

-- the answer r, and the lent list before and after: "The output is untouched in every case" of a refusal
pub record GivesShares (o : Outcome Sharing) (r : Result ShareReading Refusal) (before after : List ℕ) : Type 0 where
  pub said : outcome_of r ≡ and_then o (λ s. answer (reading_of_shares s))
  pub left : after ≡ leaves (and_then o (λ s. answer (share_list s))) before

-- ---- the direct question

-- "the question gives all but 8, then 18"; "the direct question here takes engines and duties, and equals laying out each block in turn"
abbrev pub share_question : Wanted → Engine → ℕ → Outcome Held
share_question x e k =
    and_then (and_then (shared x) steady) (λ s. of_engine s.engines e (answer (share_schedule s e k)))

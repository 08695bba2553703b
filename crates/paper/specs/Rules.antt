-- Rules 11 to 17 of a table, each with the place that it reports, and the same rules as plain statements.
use Rattle.std.specs.Prelude.{ℕ, zero, suc, ◌+◌, Bool, false, not, ◌&&◌, List, [], ◌∷◌, ltb, eqb, length}
use Rattle.laws.specs.Choice.{pick}
use Rattle.laws.specs.Search.{first, any}
use Rattle.paper.specs.declared.Run.{Run}
use Rattle.paper.specs.declared.Reading.{Reading}
use Rattle.paper.specs.Duties.{duty_at}
use Rattle.paper.specs.Words.{stop, slice, undivided, Table, run_at}
use Rattle.paper.specs.Outcome.{Outcome, refused, answer, and_then}
use Rattle.paper.specs.Bytes.{read_table}
use Rattle.paper.specs.Builder.{bad_slice}

-- x comes before y "by (row, first unit)"
unfoldable pub before : Run → Run → Bool
before x y = pick (eqb x.row.0 y.row.0) (ltb x.first y.first) (ltb x.row.0 y.row.0)

-- the two runs share a unit: each starts before the other stops
unfoldable pub meet : Run → Run → Bool
meet x y = ltb x.first (stop y) && ltb y.first (stop x)

-- 13 "a run not after its forerunner": run k of the list; run 0 has none
unfoldable pub unordered : List Run → ℕ → Bool
unordered xs zero = false
unordered xs (suc k) = not (before (run_at xs k) (run_at xs (k + 1)))

-- what a later run y may not be to an earlier run x:
-- 14 "a run shares a unit with an earlier run of its row"
unfoldable pub overlaps : Run → Run → Bool
overlaps x y = eqb x.row.0 y.row.0 && meet x y

-- 15 "a run starts where one of the same row and duty stops". Of an earlier run: where 13 holds no later one can be meant
unfoldable pub joins : Run → Run → Bool
joins x y = eqb x.row.0 y.row.0 && eqb x.duty y.duty && eqb (stop x) y.first

-- 16 "a run shares a unit with an earlier run of its duty on another row"
unfoldable pub twice : Run → Run → Bool
twice x y = not (eqb x.row.0 y.row.0) && eqb x.duty y.duty && meet x y

-- the lowest run that is so to an earlier one, or how many there are
abbrev pub lowest : (Run → Run → Bool) → List Run → ℕ
lowest bad xs = first (λ k. any (λ j. bad (run_at xs j) (run_at xs k)) k) (length xs)

-- the units of all runs of duty i
unfoldable pub units_of : List Run → ℕ → ℕ
units_of [] i = zero
units_of (x ∷ xs) i = pick (eqb x.duty i) x.length 0 + units_of xs i

-- 17 "a duty's runs do not add up to its slice": the lowest duty, or how many there are
abbrev pub bad_sum : Table → ℕ
bad_sum t = first (λ i. not (eqb (units_of t.runs i) (slice t.ticks (duty_at t.duties i)))) (length t.duties)

-- 13: the lowest run, or how many there are
abbrev pub bad_order : Table → ℕ
bad_order t = first (unordered t.runs) (length t.runs)

-- a place below the count is a fault with that number; else the next rule is looked at
abbrev pub fault : {A : Type 0} → (number place count : ℕ) → Outcome A → Outcome A
fault number place count rest = pick (ltb place count) (refused number place) rest

-- 13 to 17, in their order
unfoldable pub judge_runs : Table → Outcome Table
judge_runs t =
    fault 13 (bad_order t) (length t.runs)
    (fault 14 (lowest overlaps t.runs) (length t.runs)
    (fault 15 (lowest joins t.runs) (length t.runs)
    (fault 16 (lowest twice t.runs) (length t.runs)
    (fault 17 (bad_sum t) (length t.duties) (answer t)))))

-- 11 "now means that T does not divide every period", 12 "a slice in the table not whole"
unfoldable pub judge_duties : Table → Outcome Table
judge_duties t =
    pick (undivided t.ticks t.duties) (refused 11 0)
    (fault 12 (bad_slice t.ticks t.duties) (length t.duties) (answer t))

-- 11 to 17
unfoldable pub judge_table : Table → Outcome Table
judge_table t = and_then (judge_duties t) judge_runs

-- "A table that meets none of 10 to 17 is accepted": the table in the bytes, or the refusal
unfoldable pub accepted : List ℕ → Outcome Table
accepted b = and_then (read_table b) judge_table

-- "The answer is either the reading (T, engines, duties, number of runs) or a fault"
abbrev pub reading_of : Table → Reading
reading_of t = record { block_length = t.ticks; engines = t.engines; duties = length t.duties; runs = length t.runs }

abbrev pub judged : List ℕ → Outcome Reading
judged b = and_then (accepted b) (λ t. answer (reading_of t))

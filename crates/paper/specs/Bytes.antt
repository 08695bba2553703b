-- Document 01, "Table bytes" and refusal 10: a table as bytes, and the table in bytes.
use Rattle.std.specs.Prelude.{ℕ, ◌+◌, ◌*◌, Bool, not, ◌&&◌, List, ◌∷◌, ◌++◌, leb, ltb, eqb, length, get_or}
use Rattle.laws.specs.Choice.{pick}
use Rattle.laws.specs.Search.{first}
use Rattle.laws.specs.Lists.{tab, flat}
use Rattle.laws.specs.Digits.{digits, num_at}
use Rattle.paper.specs.declared.Duty.{Duty}
use Rattle.paper.specs.declared.Run.{Run}
use Rattle.paper.specs.Duties.{duty}
use Rattle.paper.specs.Words.{run, stop, Table}
use Rattle.paper.specs.Limits.{Width, small, most_ticks, duty_kind, end_kind, head_length, duty_length, run_length, end_length}
use Rattle.paper.specs.Outcome.{Outcome, refused, answer}

-- the number is from low to high
abbrev pub within : ℕ → ℕ → ℕ → Bool
within low high v = leb low v && leb v high

-- "Each record is one byte of kind, then a body whose length the kind fixes. Numbers are little-endian."
-- kind 1: T (4), engines (1), duties (1)
unfoldable pub head_bytes : Width → Table → List ℕ
head_bytes w t = w.head_kind ∷ digits 4 t.ticks ++ digits 1 t.engines ++ digits w.duty_field (length t.duties)

-- kind 2: service (4), period (4)
unfoldable pub duty_bytes : Duty → List ℕ
duty_bytes x = duty_kind ∷ digits 4 x.service ++ digits 4 x.period

-- kind 3: row (1), duty (1), first unit (4), length (4)
unfoldable pub run_bytes : Width → Run → List ℕ
run_bytes w x = w.run_kind ∷ digits 1 x.row.0 ++ digits w.duty_field x.duty ++ digits 4 x.first ++ digits 4 x.length

-- kind 4: number of runs (2)
unfoldable pub end_bytes : ℕ → List ℕ
end_bytes n = end_kind ∷ digits 2 n

-- "Order: one kind 1, one kind 2 for each duty, the runs, one kind 4, nothing after."
unfoldable pub encode : Width → Table → List ℕ
encode w t = head_bytes w t ++ flat duty_bytes t.duties ++ flat (run_bytes w) t.runs ++ end_bytes (length t.runs)

-- where duty d and, after n duties, run k stand
abbrev pub duty_place : Width → ℕ → ℕ
duty_place w d = head_length w + duty_length * d

abbrev pub run_place : Width → ℕ → ℕ → ℕ
run_place w n k = head_length w + duty_length * n + run_length w * k

-- a record that is not "cut short" and is "of the kind its place calls for"
unfoldable pub stands : List ℕ → (at kind size : ℕ) → Bool
stands b at kind size = leb (at + size) (length b) && eqb (get_or b at 0) kind

-- the fields of the head: T, engines, duties
abbrev pub ticks_in : List ℕ → ℕ
ticks_in b = num_at 4 b 1

abbrev pub engines_in : List ℕ → ℕ
engines_in b = num_at 1 b 5

abbrev pub duties_in : Width → List ℕ → ℕ
duties_in w b = num_at w.duty_field b 6

-- ".. holds a field out of range (T from 1 to 1,000,000; the ranges above ..)"
abbrev pub head_good : Width → List ℕ → Bool
head_good w b =
    stands b 0 w.head_kind (head_length w) && within 1 most_ticks (ticks_in b) && within 1 w.most_engines (engines_in b)
    && within 1 w.most_duties (duties_in w b)

-- the duty in the record at a place: "period 1 to 1,000,000, service 1 to its period"
unfoldable pub duty_in : List ℕ → ℕ → Duty
duty_in b at = duty (num_at 4 b (at + 1)) (num_at 4 b (at + 5))

abbrev pub duty_ranged : Duty → Bool
duty_ranged x = within 1 most_ticks x.period && within 1 x.period x.service

abbrev pub duty_good : List ℕ → ℕ → Bool
duty_good b at = stands b at duty_kind duty_length && duty_ranged (duty_in b at)

-- the run in the record at a place: "row and duty below their counts; length at least 1; first + length at most T"
unfoldable pub run_in : Width → List ℕ → ℕ → Run
run_in w b at =
    run (num_at 1 b (at + 1)) (num_at w.duty_field b (at + 2)) (num_at 4 b (at + 2 + w.duty_field)) (num_at 4 b (at + 6 + w.duty_field))

abbrev pub run_ranged : (t m n : ℕ) → Run → Bool
run_ranged t m n x = ltb x.row.0 m && ltb x.duty n && leb 1 x.length && leb (stop x) t

abbrev pub run_good : Width → List ℕ → ℕ → Bool
run_good w b at = stands b at w.run_kind (run_length w) && run_ranged (ticks_in b) (engines_in b) (duties_in w b) (run_in w b at)

-- ".. or is a kind 4 with the wrong number"
abbrev pub end_good : List ℕ → ℕ → ℕ → Bool
end_good b at n = stands b at end_kind end_length && eqb (num_at 2 b (at + 1)) n

-- the first duty record of n that is no good, and how many good runs follow n duties, at most 128
abbrev pub bad_duty : Width → List ℕ → ℕ → ℕ
bad_duty w b n = first (λ d. not (duty_good b (duty_place w d))) n

abbrev pub good_runs : Width → List ℕ → ℕ → ℕ
good_runs w b n = first (λ k. not (run_good w b (run_place w n k))) w.most_runs

-- the table whose n duties and k runs stand in the bytes
unfoldable pub table_in : Width → List ℕ → ℕ → ℕ → Table
table_in w b n k =
    record {
      ticks = ticks_in b;
      engines = engines_in b;
      duties = tab n (λ d. duty_in b (duty_place w d));
      runs = tab k (λ j. run_in w b (run_place w n j));
    }

-- refusal 10: "the first record that is cut short, is not of the kind its place calls for, holds a field out of range .., is the 129th run,
-- or is a kind 4 with the wrong number; or, failing those, the offset after kind 4 if bytes follow"
unfoldable pub after_runs : Width → List ℕ → ℕ → ℕ → Outcome Table
after_runs w b n k =
    pick (not (end_good b (run_place w n k) k)) (refused 10 (run_place w n k))
    (pick (ltb (run_place w n k + end_length) (length b)) (refused 10 (run_place w n k + end_length)) (answer (table_in w b n k)))

unfoldable pub after_head : Width → List ℕ → ℕ → Outcome Table
after_head w b n = pick (ltb (bad_duty w b n) n) (refused 10 (duty_place w (bad_duty w b n))) (after_runs w b n (good_runs w b n))

unfoldable pub parse : Width → List ℕ → Outcome Table
parse w b = pick (not (head_good w b)) (refused 10 0) (after_head w b (duties_in w b))

-- ---- the two ways between a table and its bytes

abbrev pub bytes_of : Table → List ℕ
bytes_of t = encode small t

abbrev pub read_table : List ℕ → Outcome Table
read_table b = parse small b

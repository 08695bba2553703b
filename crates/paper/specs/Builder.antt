-- The builder: after 1 to 5, refusal 24 and then 6 to 8 in their order.
use Rattle.std.specs.Prelude.{ℕ, ◌*◌, not, List, ltb, eqb, length}
use Rattle.laws.specs.Choice.{pick}
use Rattle.laws.specs.Search.{first}
use Rattle.laws.specs.Lists.{sum_of}
use Rattle.paper.specs.declared.Duty.{Duty}
use Rattle.paper.specs.Duties.{duty_at}
use Rattle.paper.specs.Words.{block_length_of, undivided, whole, Table}
use Rattle.paper.specs.Sa1.{slices, sa1}
use Rattle.paper.specs.Outcome.{Outcome, refused, answer, and_then}
use Rattle.paper.specs.Bytes.{bytes_of}
use Rattle.paper.specs.Wanted.{Wanted, taken}

-- "a slice not whole": the lowest duty, or how many there are
abbrev pub bad_slice : ℕ → List Duty → ℕ
bad_slice t ds = first (λ d. not (whole t (duty_at ds d))) (length ds)

-- 6 "a slice not whole", 7 "the slices add up to more than engines·T", else SA1's table
unfoldable pub plan_at : ℕ → ℕ → List Duty → Outcome Table
plan_at t m ds =
    pick (ltb (bad_slice t ds) (length ds)) (refused 6 (bad_slice t ds))
    (pick (ltb (m * t) (sum_of (slices t ds))) (refused 7 0) (answer (sa1 t m ds)))

-- "a wanted block length, 0 meaning the greatest common divisor"
abbrev pub length_meant : ℕ → List Duty → ℕ
length_meant wish ds = pick (eqb wish 0) (block_length_of ds) wish

-- "24, the wanted length does not divide every period, after 5"; else the plan with blocks of that length
abbrev pub plan_for : ℕ → ℕ → List Duty → Outcome Table
plan_for t m ds = pick (undivided t ds) (refused 24 0) (plan_at t m ds)

-- the plan of what is wanted, in blocks of the wanted length: 1 to 5, 24, 6 and 7, else SA1's table
unfoldable pub plan : ℕ → Wanted → Outcome Table
plan wish x = and_then (taken x) (λ ds. plan_for (length_meant wish ds) x.engines ds)

-- 8 "buffer shorter than the table", place "bytes needed"; else the table's bytes
abbrev pub fitted : ℕ → List ℕ → Outcome (List ℕ)
fitted room bytes = pick (ltb room (length bytes)) (refused 8 (length bytes)) (answer bytes)

abbrev pub build : ℕ → Wanted → ℕ → Outcome (List ℕ)
build wish x room = and_then (plan wish x) (λ t. fitted room (bytes_of t))

-- Document 01, "Words", what a plan is made of: block, unit, slice, row, run, table. (004 counts units, engines and duties from 1. We count
-- from 0.)
use Rattle.std.specs.Prelude.{ℕ, ◌+◌, ◌*◌, ◌/◌, Bool, not, ◌&&◌, List, [], ◌∷◌, map, leb, ltb, eqb, length, get_or}
use Rattle.laws.specs.Choice.{pick}
use Rattle.laws.specs.Search.{any}
use Rattle.laws.specs.Divisor.{divides, gcd_of}
use Rattle.paper.specs.declared.Row.{Row}
use Rattle.paper.specs.declared.Duty.{Duty}
use Rattle.paper.specs.declared.Run.{Run}
use Rattle.std.specs.Prelude.{None, Some}
use Rattle.paper.specs.Duties.{Held, duty_at, periods_of}

-- the row of a number
abbrev pub row : ℕ → Row
row n = record { 0 = n }

-- the numbers of rows
abbrev pub row_numbers : List Row → List ℕ
row_numbers rs = map (λ r. r.0) rs

-- "The block length T is the greatest common divisor of all periods." Since document 02's request 6 that is the block length of a plan of
-- shares, and of a table where no other is wanted
unfoldable pub block_length_of : List Duty → ℕ
block_length_of ds = gcd_of (periods_of ds)

-- "T in a table is then any common divisor of all periods": whether "T does not divide every period"
abbrev pub undivided : ℕ → List Duty → Bool
undivided t ds = any (λ i. not (divides t (duty_at ds i).period)) (length ds)

-- "The slice N of a duty is T·C/D."
unfoldable pub slice : ℕ → Duty → ℕ
slice t x = t * x.service / x.period

-- "It must be whole, that is, D/T divides C": D divides T·C
unfoldable pub whole : ℕ → Duty → Bool
whole t x = divides x.period (t * x.service)

-- "A run is a stretch of units on one row given to one duty": row, duty, first unit, length
abbrev pub run : ℕ → ℕ → ℕ → ℕ → Run
run r i u n = record { row = row r; duty = i; first = u; length = n }

-- the unit after a run's last
abbrev pub stop : Run → ℕ
stop x = x.first + x.length

-- the run is on row r and has the unit u
unfoldable pub covers : Run → Row → ℕ → Bool
covers x r u = eqb x.row.0 r.0 && leb x.first u && ltb u (stop x)

-- a plan: the block length T, the number of engines (and of rows), the duties and the runs
pub record Table : Type 0 where
  pub ticks : ℕ
  pub engines : ℕ
  pub duties : List Duty
  pub runs : List Run

-- run k of a list of them
abbrev pub run_at : List Run → ℕ → Run
run_at xs k = get_or xs k (run 0 0 0 0)

-- who holds unit u of row r: "finding the run that holds a unit stops at the first that does"
unfoldable pub held_in : List Run → Row → ℕ → Held
held_in [] r u = None
held_in (x ∷ xs) r u = pick (covers x r u) (Some x.duty) (held_in xs r u)

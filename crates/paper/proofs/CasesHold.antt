-- What document 01 states of P1 to P10 holds. The builder's table of each set is written out below and found by computing, and what is
-- stated of a table is computed from it. The loads of all blocks follow from those of the first two, for every block after the first has
-- as many.
-- Assumes nothing.
use Prim.Native.Nat.{ℕ, suc, ◌+◌, ◌<◌}
use mathlib.Core.Path.{◌≡◌, refl, ◌∙◌}
use mathlib.Core.List.{List, [], ◌∷◌}
use native.Mathlib.Omega.{arith}
use lib.ListN.{length}
use Rattle.laws.specs.Search.{first}
use Rattle.laws.specs.Sum.{sum_to}
use Rattle.laws.specs.Divisor.{gcd, gcd_of, euclid}
use Rattle.laws.specs.Lists.{tab, flat, sum_of}
use Rattle.laws.specs.Digits.{digits}
use Rattle.laws.proofs.Each.{Each, each_at}
use Rattle.paper.specs.declared.Run.{Run}
use Rattle.paper.specs.Duties.{same}
use Rattle.paper.specs.Words.{run, Table, covers, held_in, whole, slice, block_length_of}
use Rattle.paper.specs.Sa1.{sa1, lay, lay_one, row_after, unit_after}
use Rattle.paper.specs.Rotation.{link, first_of, next_of, row_at, chain_length, chains_below}
use Rattle.paper.specs.Walk.{walk, loads}
use Rattle.paper.specs.Schedule.{load, loads_in}
use Rattle.paper.specs.Outcome.{refused, answer}
use Rattle.paper.specs.Bytes.{encode, head_bytes, duty_bytes, run_bytes, end_bytes}
use Rattle.paper.specs.Wanted.{duties_of, in_range, taken}
use Rattle.paper.specs.Builder.{plan, plan_at}
use Rattle.paper.specs.Text.{plan_text, print_line, decimal_in}
use Rattle.paper.specs.Cases.{Case, Says, prints, p1_text, LoadsThen, pieces, outcome, Holds, p1, p2, p3, p4, p5, p6, p7, p8, p9, p10}
use Rattle.paper.specs.Cases.{outcome_for, HoldsFor, cases, case_at}
use Rattle.paper.proofs.Links.{Closed}
use Rattle.paper.proofs.Loads.{later, loads_more, loads_closed, later_is}

-- ---- the tables

-- a set's table, by its block length and its runs
abbrev pub table_for : Case → ℕ → List Run → Table
table_for c t xs = record { ticks = t; engines = c.engines; duties = c.duties; runs = xs }

abbrev t1 : Table
t1 = table_for p1 3 (run 0 0 0 2 ∷ run 0 1 2 1 ∷ run 1 1 0 1 ∷ run 1 2 1 2 ∷ [])

abbrev t2 : Table
t2 = table_for p2 1 (run 0 0 0 1 ∷ [])

abbrev t3 : Table
t3 = table_for p3 2 (run 0 0 0 1 ∷ run 0 1 1 1 ∷ [])

abbrev t6 : Table
t6 = table_for p6 3 (run 0 0 0 3 ∷ run 1 1 0 2 ∷ [])

abbrev t7 : Table
t7 = table_for p7 3 (run 0 0 0 1 ∷ run 0 1 1 2 ∷ run 1 1 0 1 ∷ run 1 2 1 1 ∷ [])

abbrev t8 : Table
t8 = table_for p8 10 (run 0 0 0 7 ∷ run 0 1 7 3 ∷ run 1 1 0 1 ∷ run 1 2 1 5 ∷ run 1 3 6 4 ∷ run 2 4 0 2 ∷ run 2 5 2 7
    ∷ run 2 6 9 1 ∷ run 3 6 0 1 ∷ run 3 7 1 9 ∷ [])

abbrev t9 : Table
t9 = table_for p9 4 (run 0 0 0 3 ∷ run 0 1 3 1 ∷ run 1 1 0 2 ∷ run 1 2 2 2 ∷ run 2 2 0 1 ∷ run 2 3 1 3 ∷ [])

-- the builder makes them ..
made : (outcome p1 ≡ answer t1) × (outcome p2 ≡ answer t2) × (outcome p3 ≡ answer t3) × (outcome p6 ≡ answer t6)
    × (outcome p7 ≡ answer t7) × (outcome p8 ≡ answer t8) × (outcome p9 ≡ answer t9)
unfolding plan taken in_range plan_at sa1 lay lay_one row_after unit_after slice whole block_length_of gcd_of gcd euclid duties_of tab
    sum_of first
made = (refl, refl, refl, refl, refl, refl, refl)

-- .. and refuses the others
not_made : (outcome p4 ≡ refused 7 0) × (outcome p5 ≡ refused 6 0) × (outcome p10 ≡ refused 5 0)
unfolding plan taken in_range plan_at sa1 lay lay_one row_after unit_after slice whole block_length_of gcd_of gcd euclid duties_of tab
    sum_of first
not_made = (refl, refl, refl)

-- ---- their loads

-- nothing is chained to the last row; the first block has a loads, and the second adds b
abbrev pub FirstTwo : Table → ℕ → ℕ → Type 0
FirstTwo t a b = Closed t × (loads t 1 ≡ a) × (loads t 2 ≡ a + b)

first_two : FirstTwo t1 4 3 × FirstTwo t2 1 0 × FirstTwo t3 2 2 × FirstTwo t6 2 1 × FirstTwo t8 10 8
unfolding loads loads_in load walk row_at next_of first_of link held_in covers same sum_to
first_two = (
  (record { some_tick = omega arith; some_engine = omega arith; no_link = refl }, refl, refl),
  (record { some_tick = omega arith; some_engine = omega arith; no_link = refl }, refl, refl),
  (record { some_tick = omega arith; some_engine = omega arith; no_link = refl }, refl, refl),
  (record { some_tick = omega arith; some_engine = omega arith; no_link = refl }, refl, refl),
  (record { some_tick = omega arith; some_engine = omega arith; no_link = refl }, refl, refl),
)

-- so every later block has the loads that the second adds
pub loads_then_lem : (t : Table) (a b : ℕ) → FirstTwo t a b → LoadsThen t a b
loads_then_lem t a b f = (f.1, more)
  where
    more : (n : ℕ) → loads t (n + 2) ≡ loads t (n + 1) + b
    more n =
        let y : n + 1 ≡ suc n = omega arith in
        let z : n + 2 ≡ suc (suc n) = omega arith in
        rw (y, z) (omega (arith, loads_more t f.0 n, later_is t f.0, f.1, f.2))

-- P8's 420 blocks
over8 : loads t8 420 ≡ 3_362
over8 =
    let f = first_two.4 in
    let z : later t8 ≡ 8 = omega (arith, later_is t8 f.0, f.1, f.2) in
    loads_closed t8 f.0 419 ∙ rw (z, f.1)

-- ---- all that is stated

-- what is stated of a set holds where it holds of the table that the builder makes
pub planned : (wish : ℕ) (c : Case) (t : Table) → outcome_for wish c ≡ answer t → Each (Says (answer t)) c.facts → HoldsFor wish c
planned wish c t e h = rw e h

-- P1's printed plan, byte by byte
printed1 : Says (answer t1) (prints p1_text)
unfolding plan_text print_line decimal_in flat tab chains_below chain_length first_of loads loads_in load walk row_at next_of link held_in
    covers same
    sum_to
printed1 = refl

hold1 : Holds p1
unfolding chains_below chain_length sum_to first_of link held_in covers same walk row_at next_of
hold1 = planned 0 p1 t1 made.0 (refl, (refl, (refl, (refl, (refl, (loads_then_lem t1 4 3 first_two.0, (printed1, (refl, (refl, tt)))))))))

hold2 : Holds p2
unfolding encode head_bytes duty_bytes run_bytes end_bytes flat digits
hold2 = planned 0 p2 t2 made.1 (loads_then_lem t2 1 0 first_two.1, (refl, tt))

hold3 : Holds p3
hold3 = planned 0 p3 t3 made.2 (loads_then_lem t3 2 2 first_two.2, tt)

hold6 : Holds p6
unfolding chains_below chain_length sum_to first_of link held_in covers same
hold6 = planned 0 p6 t6 made.3 (refl, (refl, (loads_then_lem t6 2 1 first_two.3, tt)))

hold7 : Holds p7
unfolding pieces walk row_at next_of first_of link held_in covers same
hold7 = planned 0 p7 t7 made.4 (refl, (refl, (refl, tt)))

hold8 : Holds p8
unfolding chains_below chain_length sum_to first_of link held_in covers same slice
hold8 = planned 0 p8 t8 made.5 (refl, (refl, (refl, (loads_then_lem t8 10 8 first_two.4, (over8, tt)))))

hold9 : Holds p9
unfolding chains_below chain_length sum_to first_of link held_in covers same row_at next_of tab
hold9 = planned 0 p9 t9 made.6 (refl, (refl, tt))

-- case by case
cases_each : Each Holds cases
cases_each = (
  hold1,
  (hold2, (hold3, ((not_made.0, tt), ((not_made.1, tt), (hold6, (hold7, (hold8, (hold9, ((not_made.2, tt), tt))))))))),
)

-- what the document states of P1 to P10 holds
pub cases_hold : (i : ℕ) → i < length cases → Holds (case_at i)
cases_hold = each_at Holds p1 cases cases_each

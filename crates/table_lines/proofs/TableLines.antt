-- The lines of what stands in a table have room. A number that is printed has at most 7 digits, so a line of n numbers has at most 8 n
-- bytes after its word, and there are at most 64 duties and 128 runs.
-- Assumes nothing.
use Prim.Native.Nat.{ℕ, ◌+◌, ◌-◌, ◌≤◌, ◌<◌}
use mathlib.Core.Path.{◌≡◌, refl, ap}
use mathlib.Core.List.{List, [], ◌∷◌, ◌++◌}
use native.Mathlib.Omega.{arith}
use lib.ListN.{length, get_or, take, drop}
use Rattle.laws.specs.Lists.{tab, flat, over}
use Rattle.laws.proofs.Each.{at_each}
use Rattle.laws.proofs.Lists.{length-tab, get_or-tab}
use Rattle.laws.proofs.Listing.{Listing, listing_start, listing_at, listing_room, listing_more, listing_end, flat_most}
use Rattle.paper.specs.declared.Duty.{Duty}
use Rattle.paper.specs.declared.Run.{Run}
use Rattle.paper.specs.Limits.{small, most_ticks, most_engines, most_duties, plan_line_room, duty_line_room, run_line_room}
use Rattle.paper.specs.Limits.{duty_lines_room, run_lines_room}
use Rattle.paper.specs.Duties.{duty_at}
use Rattle.paper.specs.Words.{Table, run, run_at}
use Rattle.paper.specs.Statements.{Ranged, DutyRanged, RunRanged}
use Rattle.paper.specs.Text.{print_line, plan_word, duty_word, run_word, plan_line, duty_line, run_line}
use Rattle.line_print.proofs.Line.{line_most}
use Rattle.table_lines.specs.Parts.{duty_lines, run_lines}

-- ---- how long the parts are

-- a duty's line, and a run's
pub duty_fits : (i : ℕ) (x : Duty) → i < most_duties → DutyRanged x
    → length (print_line duty_word (i ∷ x.service ∷ x.period ∷ [])) ≤ duty_line_room
duty_fits i x h r =
    omega (arith, line_most 6 duty_word (i ∷ x.service ∷ x.period ∷ []) (omega arith, (omega (arith, r), (omega (arith, r), tt))))

pub run_fits : {t : Table} → Ranged small t → (x : Run) → RunRanged t.ticks t.engines (length t.duties) x
    → length (run_line x) ≤ run_line_room
run_fits {t} g x r =
    let T : t.ticks ≤ most_ticks = g.ticks_most in
    let E : t.engines ≤ most_engines = g.engines_most in
    let D : length t.duties ≤ most_duties = g.duties_most in
    omega (
      arith,
      line_most 6 run_word (x.row.0 ∷ x.duty ∷ x.first ∷ x.length ∷ [])
          (omega (arith, r), (omega (arith, r), (omega (arith, r), (omega (arith, r), tt)))),
    )

pub plan_fits : {t : Table} → Ranged small t → length (plan_line t) ≤ plan_line_room
plan_fits {t} g =
    let short = line_most 6 plan_word (t.ticks ∷ t.engines ∷ length t.duties ∷ []) in
    omega (arith, short (omega (arith, g.ticks_most), (omega (arith, g.engines_most), (omega (arith, g.duties_most), tt))))

pub duties_most : {t : Table} → Ranged small t → length (duty_lines t) ≤ duty_lines_room
duties_most {t} g =
    omega (
      arith,
      g.duties_most,
      length-tab (length t.duties) (λ i. i),
      flat_most (duty_line t.duties) duty_line_room numbers (at_each _ 0 numbers each),
    )
  where
    numbers : List ℕ
    numbers = tab (length t.duties) (λ i. i)

    each : (k : ℕ) → k < length numbers → length (duty_line t.duties (get_or numbers k 0)) ≤ duty_line_room
    each k h =
        let l : k < length t.duties = rw length-tab at h in
        rw (get_or-tab (length t.duties) (λ i. i) 0 k l)
        (duty_fits k (duty_at t.duties k) (omega (arith, g.duties_most)) (g.duty_ranged_lem k l))

pub runs_most : {t : Table} → Ranged small t → length (run_lines t) ≤ run_lines_room
runs_most {t} g =
    omega (arith, g.runs_most, flat_most run_line run_line_room t.runs (at_each _ (run 0 0 0 0) t.runs each))
  where
    each : (k : ℕ) → k < length t.runs → length (run_line (run_at t.runs k)) ≤ run_line_room
    each k h = run_fits g (run_at t.runs k) (g.run_ranged_lem k h)

-- the plan's line, by its numbers, and how long it is
pub head_is : (t : Table) {ticks engines duties : ℕ} → ticks ≡ t.ticks → engines ≡ t.engines → duties ≡ length t.duties
    → print_line plan_word (ticks ∷ engines ∷ duties ∷ []) ≡ plan_line t
head_is t e f g = rw (e, f, g) refl

pub head_room : {t : Table} {n : ℕ} {w : List ℕ} → Ranged small t → n ≡ length w → w ≡ plan_line t → n ≤ plan_line_room
head_room {t} {n} {w} g e is = omega (arith, e, ap length is, plan_fits g)

-- ---- how they are written

-- a loop that writes what each of n items gives, all of it in `most` bytes; i of them are written, up to the place `at`
pub record Lining {A : Type 0} (f : A → List ℕ) (items : List A) (n most : ℕ) (l xs : List ℕ) (at i : ℕ) : Type 0 where
  pub many : length items ≡ n
  pub fits : length (flat f items) ≤ most
  pub listing : Listing f items l xs at i

pub lining_start : {A : Type 0} {f : A → List ℕ} {items : List A} {n most : ℕ} (l : List ℕ) → length items ≡ n
    → length (flat f items) ≤ most → Lining f items n most l l 0 0
lining_start {A} {f} {items} l e h = record { many = e; fits = h; listing = listing_start f items l }

-- the place and the next item's line have room
pub lining_at : {A : Type 0} {f : A → List ℕ} {items : List A} {n most at i : ℕ} {l xs : List ℕ} → Lining f items n most l xs at i
    → (at ≤ most) × (length xs ≡ length l)
lining_at s = (omega (arith, s.fits, listing_at s.listing), s.listing.long)

pub lining_room : {A : Type 0} {f : A → List ℕ} {items : List A} {n most at i : ℕ} {l xs : List ℕ} (d : A) (p : List ℕ)
    → p ≡ f (get_or items i d) → Lining f items n most l xs at i → i < n → at + length p ≤ most
lining_room d p e s h = omega (arith, s.fits, listing_room d p e s.listing (omega (arith, s.many)))

pub lining_more : {A : Type 0} {f : A → List ℕ} {items : List A} {m most at i : ℕ} {l xs : List ℕ} (d : A) (p ys : List ℕ) (n : ℕ)
    → p ≡ f (get_or items i d) → Lining f items m most l xs at i → i < m → n ≡ length p → ys ≡ over p (take (length xs - at) (drop at xs))
    → length (take at xs ++ (ys ++ drop (length xs - at) (drop at xs))) ≡ length l
    → Lining f items m most l (take at xs ++ (ys ++ drop (length xs - at) (drop at xs))) (at + n) (i + 1)
lining_more d p ys n e s h k w g =
    record { many = s.many; fits = s.fits; listing = listing_more d p ys n e s.listing (omega (arith, s.many)) k w g }

pub lining_end : {A : Type 0} {f : A → List ℕ} {items : List A} {n most at i : ℕ} {l xs : List ℕ} → Lining f items n most l xs at i → n ≤ i
    → ((at ≡ length (flat f items)) × (xs ≡ over (flat f items) l)) × (at ≤ most)
lining_end s h = (listing_end s.listing (omega (arith, s.many)), (lining_at s).0)

-- The fields of a table's bytes are the table's numbers, provided that each number fits its field: each field is read at
-- the place where its bytes stand.
-- Assumes nothing.
use Prim.Native.Nat.{ℕ, suc, ◌+◌, ◌^◌, ◌<◌}
use mathlib.Core.Path.{◌≡◌, ◌∙◌}
use mathlib.Core.Bool.{true}
use mathlib.Core.List.{List, [], ◌∷◌, ◌++◌}
use native.Mathlib.Omega.{arith}
use lib.Dec.{leb, eqb}
use lib.ListN.{length, get_or, length-append}
use borrow.Author.Tests.{le-leb, eq-eqb}
use Rattle.laws.specs.Lists.{tab}
use Rattle.laws.specs.Digits.{digits, num_at}
use Rattle.laws.proofs.Cases.{and_both}
use Rattle.laws.proofs.Lists.{tab_ext, tab-get_or}
use Rattle.laws.proofs.Digits.{length_digits}
use Rattle.laws.proofs.Parts.{HasPart, holds_left, holds_room, holds_first, holds_field}
use Rattle.paper.specs.declared.Duty.{Duty}
use Rattle.paper.specs.declared.Run.{Run}
use Rattle.paper.specs.Duties.{duty, duty_at}
use Rattle.paper.specs.Words.{run, Table, run_at}
use Rattle.paper.specs.Limits.{Width, head_length, duty_length, run_length, end_length}
use Rattle.paper.specs.Bytes.{head_bytes, duty_bytes, run_bytes, end_bytes, encode, duty_place, run_place, stands, ticks_in}
use Rattle.paper.specs.Bytes.{engines_in, duties_in}
use Rattle.paper.specs.Bytes.{duty_in, run_in, table_in}
use Rattle.table_laws.proofs.Bytes.{head_stands, duty-stands, run-stands}

-- a record that stands somewhere is not cut short and is of its kind
pub stands_there : {b : List ℕ} {at : ℕ} (kind size : ℕ) (body : List ℕ) → suc (length body) ≡ size → HasPart b at (kind ∷ body)
    → stands b at kind size ≡ true
unfolding stands
stands_there {b} {at} kind size body e h =
    and_both (leb (at + size) (length b)) (eqb (get_or b at 0) kind)
    (le-leb (at + size) (length b) (omega (arith, holds_room (kind ∷ body) h)))
    (eq-eqb (get_or b at 0) kind (holds_first kind body h))

-- the head's numbers fit their fields
pub record HeadFits (w : Width) (t : Table) : Type 0 where
  pub ticks : t.ticks < 256 ^ 4
  pub engines : t.engines < 256 ^ 1
  pub duties : length t.duties < 256 ^ w.duty_field

-- a duty's numbers fit their fields
pub record DutyFits (x : Duty) : Type 0 where
  pub service : x.service < 256 ^ 4
  pub period : x.period < 256 ^ 4

-- a run's numbers fit their fields
pub record RunFits (w : Width) (x : Run) : Type 0 where
  pub row : x.row.0 < 256 ^ 1
  pub duty : x.duty < 256 ^ w.duty_field
  pub first : x.first < 256 ^ 4
  pub length : x.length < 256 ^ 4

module _ (w : Width) (t : Table) (b : List ℕ) (h : HasPart b 0 (head_bytes w t)) where
  -- the head is of its kind
  pub head_kind_lem : stands b 0 w.head_kind (head_length w) ≡ true
  unfolding head_bytes
  head_kind_lem =
      stands_there w.head_kind (head_length w) (digits 4 t.ticks ++ digits 1 t.engines ++ digits w.duty_field (length t.duties))
      (simp (length-append, length_digits) (omega arith)) h

  -- T is read
  pub head_ticks : HeadFits w t → ticks_in b ≡ t.ticks
  unfolding head_bytes
  head_ticks f =
      holds_field (w.head_kind ∷ []) 4 t.ticks 1
      (holds_left (w.head_kind ∷ digits 4 t.ticks) (digits 1 t.engines)
      (holds_left (w.head_kind ∷ digits 4 t.ticks ++ digits 1 t.engines) (digits w.duty_field (length t.duties)) h))
      (omega arith) f.ticks

  -- the number of engines is read
  pub head_engines : HeadFits w t → engines_in b ≡ t.engines
  unfolding head_bytes
  head_engines f =
      holds_field (w.head_kind ∷ digits 4 t.ticks) 1 t.engines 5
      (holds_left (w.head_kind ∷ digits 4 t.ticks ++ digits 1 t.engines) (digits w.duty_field (length t.duties)) h)
      (simp length_digits) f.engines

  -- the number of duties is read
  pub head_duties : HeadFits w t → duties_in w b ≡ length t.duties
  unfolding head_bytes
  head_duties f =
      holds_field (w.head_kind ∷ digits 4 t.ticks ++ digits 1 t.engines) w.duty_field (length t.duties) 6 h
      (simp (length-append, length_digits)) f.duties

-- a duty's record is of its kind
pub duty_kind_lem : (x : Duty) (b : List ℕ) (at : ℕ) → HasPart b at (duty_bytes x) → stands b at 2 duty_length ≡ true
unfolding duty_bytes
duty_kind_lem x b at h = stands_there 2 duty_length (digits 4 x.service ++ digits 4 x.period) (simp (length-append, length_digits)) h

-- and reads as the duty
pub duty-read : (x : Duty) (b : List ℕ) (at : ℕ) → HasPart b at (duty_bytes x) → DutyFits x → duty_in b at ≡ x
unfolding duty_bytes duty_in
duty-read x b at h f =
    rw (
      holds_field (2 ∷ []) 4 x.service (at + 1) (holds_left (2 ∷ digits 4 x.service) (digits 4 x.period) h) (omega arith)
          f.service,
      holds_field (2 ∷ digits 4 x.service) 4 x.period (at + 5) h (simp length_digits) f.period,
    )

-- a run's record is of its kind
pub run_kind_lem : (w : Width) (x : Run) (b : List ℕ) (at : ℕ) → HasPart b at (run_bytes w x) → stands b at w.run_kind (run_length w) ≡ true
unfolding run_bytes
run_kind_lem w x b at h =
    stands_there w.run_kind (run_length w)
    (digits 1 x.row.0 ++ digits w.duty_field x.duty ++ digits 4 x.first ++ digits 4 x.length)
    (simp (length-append, length_digits) (omega arith)) h

-- and reads as the run
pub run-read : (w : Width) (x : Run) (b : List ℕ) (at : ℕ) → HasPart b at (run_bytes w x) → RunFits w x → run_in w b at ≡ x
unfolding run_bytes run_in
run-read w x b at h f =
    let a = w.run_kind ∷ digits 1 x.row.0 in
    let c = digits w.duty_field x.duty in
    let d = digits 4 x.first in
    let e = digits 4 x.length in
    let to-first = holds_left (a ++ c ++ d) e h in
    let to-duty = holds_left (a ++ c) d to-first in
    rw (
      holds_field (w.run_kind ∷ []) 1 x.row.0 (at + 1) (holds_left a c to-duty) (omega arith) f.row,
      holds_field a w.duty_field x.duty (at + 2) to-duty (simp length_digits) f.duty,
      holds_field (a ++ c) 4 x.first (at + 2 + w.duty_field) to-first (simp (length-append, length_digits) (omega arith)) f.first,
      holds_field (a ++ c ++ d) 4 x.length (at + 6 + w.duty_field) h (simp (length-append, length_digits) (omega arith)) f.length,
    )

-- the end record is of its kind
pub end_kind_lem : (n : ℕ) (b : List ℕ) (at : ℕ) → HasPart b at (end_bytes n) → stands b at 4 end_length ≡ true
unfolding end_bytes
end_kind_lem n b at h = stands_there 4 end_length (digits 2 n) (simp length_digits) h

-- and reads as the number of runs
pub end_read : (n : ℕ) (b : List ℕ) (at : ℕ) → HasPart b at (end_bytes n) → n < 256 ^ 2 → num_at 2 b (at + 1) ≡ n
unfolding end_bytes
end_read n b at h f = holds_field (4 ∷ []) 2 n (at + 1) h (omega arith) f

-- ---- the table

-- every number of the table fits its field
pub record InFields (w : Width) (t : Table) : Type 0 where
  pub head : HeadFits w t
  pub each_duty : (i : ℕ) → i < length t.duties → DutyFits (duty_at t.duties i)
  pub each_run : (k : ℕ) → k < length t.runs → RunFits w (run_at t.runs k)
  pub runs : length t.runs < 256 ^ 2

-- the head of a table's bytes has the table's numbers
module _ (w : Width) (t : Table) (f : InFields w t) where
  pub ticks_read : ticks_in (encode w t) ≡ t.ticks
  ticks_read = head_ticks w t (encode w t) (head_stands w t) f.head

  pub engines_read_lem : engines_in (encode w t) ≡ t.engines
  engines_read_lem = head_engines w t (encode w t) (head_stands w t) f.head

  pub duties_read : duties_in w (encode w t) ≡ length t.duties
  duties_read = head_duties w t (encode w t) (head_stands w t) f.head

-- the table in a table's bytes is that table
pub table_read : (w : Width) (t : Table) → InFields w t → table_in w (encode w t) (length t.duties) (length t.runs) ≡ t
unfolding table_in
table_read w t f =
    rw (ticks_read w t f, engines_read_lem w t f, all_duties, all_runs)
  where
    all_duties : tab (length t.duties) (λ d. duty_in (encode w t) (duty_place w d)) ≡ t.duties
    all_duties =
        tab_ext (length t.duties) (λ d. duty_in (encode w t) (duty_place w d)) (duty_at t.duties)
        (λ d h. duty-read (duty_at t.duties d) (encode w t) (duty_place w d) (duty-stands w t d h) (f.each_duty d h))
        ∙ tab-get_or t.duties (duty 0 0)

    all_runs : tab (length t.runs) (λ j. run_in w (encode w t) (run_place w (length t.duties) j)) ≡ t.runs
    all_runs =
        tab_ext (length t.runs) (λ j. run_in w (encode w t) (run_place w (length t.duties) j)) (run_at t.runs)
        (λ k h. run-read w (run_at t.runs k) (encode w t) (run_place w (length t.duties) k) (run-stands w t k h) (f.each_run k h))
        ∙ tab-get_or t.runs (run 0 0 0 0)

-- A table written reads back as itself: every record of a table in range passes its test where it stands, the record
-- after the last run is of another kind, so no more runs are read, and nothing follows the end record.
-- Assumes nothing.
use Prim.Native.Nat.{ℕ, ◌+◌, ◌^◌, ◌<◌}
use mathlib.Core.Path.{◌≡◌, sym, ap, ◌∙◌}
use mathlib.Core.Bool.{Bool, true, false, not, and-false}
use native.Mathlib.Omega.{arith}
use lib.Dec.{leb, ltb}
use lib.ListN.{length}
use borrow.Author.Tests.{le-leb, lt-ltb, le-ltb, eq-eqb, ne_eqb}
use Rattle.laws.specs.Digits.{digits, num_at}
use Rattle.laws.proofs.Cases.{lt_or_le}
use Rattle.laws.proofs.Search.{first_is, first_none}
use Rattle.laws.proofs.Parts.{holds_first}
use Rattle.paper.specs.Duties.{duty_at}
use Rattle.paper.specs.Words.{stop, Table, run_at}
use Rattle.paper.specs.Outcome.{answer}
use Rattle.paper.specs.Limits.{Width, small, most_ticks, end_length, run_length}
use Rattle.paper.specs.Bytes.{end_bytes, encode, duty_place, run_place, stands, head_good, duty_good, run_good, end_good, bad_duty}
use Rattle.paper.specs.Bytes.{good_runs}
use Rattle.paper.specs.Bytes.{after_runs, after_head, parse}
use Rattle.paper.specs.Statements.{Ranged}
use Rattle.table_laws.proofs.Forms.{head_good_lem, duties_good, all_good}
use Rattle.table_laws.proofs.Bytes.{length-encode, head_stands, duty-stands, run-stands, end_stands}
use Rattle.table_laws.proofs.Fields.{InFields, head_kind_lem, ticks_read, engines_read_lem, duties_read, duty_kind_lem, duty-read}
use Rattle.table_laws.proofs.Fields.{run_kind_lem}
use Rattle.table_laws.proofs.Fields.{run-read, end_kind_lem, end_read, table_read}
use Rattle.paper.proofs.Passed.{duty_decides}

-- a width whose ranges fit its fields, and whose runs are not taken for the end
pub record Sound (w : Width) : Type 0 where
  pub engines_fit : w.most_engines < 256 ^ 1
  pub duties_fit : w.most_duties < 256 ^ w.duty_field
  pub runs_fit : w.most_runs < 256 ^ 2
  pub end_other : w.run_kind ≡ 4 → ⊥

-- document 01's widths are so
pub small_sound : Sound small
small_sound = record { engines_fit = omega arith; duties_fit = omega arith; runs_fit = omega arith; end_other = λ e. omega arith }

-- a table in range fits its fields
pub ranged_fits : (w : Width) (t : Table) → Sound w → Ranged w t → InFields w t
ranged_fits w t s r =
    record {
      head = record {
        ticks = omega (arith, r.ticks_most);
        engines = omega (arith, r.engines_most, s.engines_fit);
        duties =
            omega (arith, r.duties_most, s.duties_fit);
      };
      each_duty = λ i h. record { service = omega (arith, r.duty_ranged_lem i h); period = omega (arith, r.duty_ranged_lem i h) };
      each_run = λ k h.
          record {
            row = omega (arith, r.run_ranged_lem k h, r.engines_most, s.engines_fit);
            duty = omega (arith, r.run_ranged_lem k h, r.duties_most, s.duties_fit);
            first = omega (arith, r.run_ranged_lem k h, r.ticks_most);
            length = omega (arith, r.run_ranged_lem k h, r.ticks_most);
          };
      runs = omega (arith, r.runs_most, s.runs_fit);
    }

module _ (w : Width) (t : Table) (s : Sound w) (r : Ranged w t) where
  -- the table fits its fields
  fits : InFields w t
  fits = ranged_fits w t s r

  -- the head passes its test
  head_passes : head_good w (encode w t) ≡ true
  head_passes =
      rw (
        head_kind_lem w t (encode w t) (head_stands w t),
        ticks_read w t fits,
        engines_read_lem w t fits,
        duties_read w t fits,
        le-leb 1 t.ticks r.ticks_least,
        le-leb t.ticks most_ticks r.ticks_most,
        le-leb 1 t.engines r.engines_least,
        le-leb t.engines w.most_engines r.engines_most,
        le-leb 1 (length t.duties) r.duties_least,
        le-leb (length t.duties) w.most_duties r.duties_most,
      )

  -- so does each duty's
  duty_passes : (d : ℕ) → d < length t.duties → duty_good (encode w t) (duty_place w d) ≡ true
  duty_passes d h =
      let x = duty_at t.duties d in
      rw (
        duty_kind_lem x (encode w t) (duty_place w d) (duty-stands w t d h),
        duty-read x (encode w t) (duty_place w d) (duty-stands w t d h) (fits.each_duty d h),
      )
      ((duty_decides x).1 (r.duty_ranged_lem d h))

  -- each run's
  run_passes : (k : ℕ) → k < length t.runs → run_good w (encode w t) (run_place w (length t.duties) k) ≡ true
  run_passes k h =
      let x = run_at t.runs k in
      let at = run_place w (length t.duties) k in
      let g = r.run_ranged_lem k h in
      rw (
        run_kind_lem w x (encode w t) at (run-stands w t k h),
        ticks_read w t fits,
        engines_read_lem w t fits,
        duties_read w t fits,
        run-read w x (encode w t) at (run-stands w t k h) (fits.each_run k h),
        lt-ltb x.row.0 t.engines g.row_below,
        lt-ltb x.duty (length t.duties) g.duty_below,
        le-leb 1 x.length g.some_units,
        le-leb (stop x) t.ticks g.inside,
      )

  -- and the end record
  end_passes : end_good (encode w t) (run_place w (length t.duties) (length t.runs)) (length t.runs) ≡ true
  end_passes =
      let k = length t.runs in
      let at = run_place w (length t.duties) k in
      rw (
        end_kind_lem k (encode w t) at (end_stands w t),
        eq-eqb (num_at 2 (encode w t) (at + 1)) k
            (end_read k (encode w t) at (end_stands w t) fits.runs),
      )

  -- the end record is no run
  end_no_run : run_good w (encode w t) (run_place w (length t.duties) (length t.runs)) ≡ false
  unfolding stands end_bytes
  end_no_run =
      let at = run_place w (length t.duties) (length t.runs) in
      let four = holds_first 4 (digits 2 (length t.runs)) (end_stands w t) in
      rw (four, ne_eqb 4 w.run_kind (λ e. s.end_other (sym e))) (rw (and-false (leb (at + run_length w) (length (encode w t)))))

  -- so no duty record is bad
  no_bad_duty : bad_duty w (encode w t) (length t.duties) ≡ length t.duties
  no_bad_duty = first_none (λ d. not (duty_good (encode w t) (duty_place w d))) (length t.duties) (λ d h. ap not (duty_passes d h))

  -- and all runs are read, no more
  all_runs : good_runs w (encode w t) (length t.duties) ≡ length t.runs
  all_runs =
      let test : ℕ → Bool = λ k. not (run_good w (encode w t) (run_place w (length t.duties) k)) in
      lt_or_le (length t.runs) w.most_runs
      (λ l. first_is test w.most_runs (length t.runs) l (λ k h. ap not (run_passes k h)) (ap not end_no_run))
      (λ l. let e : length t.runs ≡ w.most_runs = omega (arith, r.runs_most) in rw e
      (first_none test w.most_runs (λ k h. ap not (run_passes k (omega arith)))))

  -- "Order: one kind 1, one kind 2 for each duty, the runs, one kind 4, nothing after": what was written is read
  pub parse_encode : parse w (encode w t) ≡ answer t
  parse_encode =
      let b = encode w t in
      let n = length t.duties in
      let k = length t.runs in
      let full = le-ltb (run_place w n k + end_length) (length b) (omega (arith, length-encode w t)) in
      head_good_lem w b (ap not head_passes) ∙ ap (after_head w b) (duties_read w t fits)
      ∙ duties_good w b n (ap (λ d. ltb d n) no_bad_duty ∙ le-ltb n n (omega arith)) ∙ ap (after_runs w b n) all_runs
      ∙ all_good w b n k (ap not end_passes) full ∙ ap answer (table_read w t fits)

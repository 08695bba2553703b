-- Bytes that read as a table are that table's bytes, and the table is in range: each record passed its test, so its
-- fields are in range and written again they are the bytes at its place, and the records follow one another to the end.
-- Assumes nothing.
use Prim.Native.Nat.{ℕ, ◌+◌, ◌*◌, ◌≤◌, ◌<◌}
use mathlib.Core.Path.{◌≡◌, refl, ◌∙◌}
use mathlib.Core.Bool.{Bool, not}
use mathlib.Core.List.{List, [], ◌∷◌, ◌++◌}
use native.Mathlib.Omega.{arith}
use lib.Dec.{ltb}
use lib.ListN.{length, take, drop}
use lib.Seq.{take_all, take-add}
use borrow.Author.Tests.{ltb-false, not-false}
use Rattle.laws.specs.Digits.{digits, num_at}
use Rattle.laws.proofs.Search.{none_clear, first_clear, first-le}
use Rattle.laws.proofs.Lists.{length-tab, get_or-tab}
use Rattle.laws.proofs.Digits.{AreBytes, digits-num_at}
use Rattle.laws.proofs.Parts.{cut_same, cut_join, cut_cons, cut_flat}
use Rattle.paper.specs.Duties.{duty}
use Rattle.paper.specs.Words.{run, Table}
use Rattle.paper.specs.Outcome.{answer}
use Rattle.paper.specs.Limits.{Width, head_length, duty_length, run_length, end_length}
use Rattle.paper.specs.Bytes.{head_bytes, duty_bytes, run_bytes, end_bytes, encode, duty_place, run_place, ticks_in, engines_in}
use Rattle.paper.specs.Bytes.{duties_in, duty_in}
use Rattle.paper.specs.Bytes.{run_in, head_good, duty_good, run_good, end_good, bad_duty, good_runs, table_in, after_runs, after_head}
use Rattle.paper.specs.Bytes.{parse}
use Rattle.paper.specs.Statements.{DutyRanged, RunRanged, Ranged}
use Rattle.paper.proofs.Outcomes.{answer_one, past}
use Rattle.paper.proofs.Passed.{Standing, HeadTold, head_told, duty-told, run-told, end_told}

-- ---- each record written again

-- the kind's byte
kind_part : (b : List ℕ) (at kind size : ℕ) → Standing b at kind size → 1 ≤ size → kind ∷ [] ≡ take 1 (drop at b)
kind_part b at kind size s h = rw (← s.kind_is) (cut_cons b at 0 (omega (arith, s.room)))

-- a field written again after what stands before it is one part with it
field_part :
    (b p : List ℕ) (at m k place : ℕ) → AreBytes b → p ≡ take m (drop at b) → at + m ≡ place → place + k ≤ length b
    → p ++ digits k (num_at k b place) ≡ take (m + k) (drop at b)
field_part b p at m k place y e q l = rw (digits-num_at k b place y l, e, ← q) (cut_join b at m k)

module _ (w : Width) (b : List ℕ) (y : AreBytes b) where
  -- the head
  head_again :
      HeadTold w b → w.head_kind ∷ digits 4 (ticks_in b) ++ digits 1 (engines_in b) ++ digits w.duty_field (duties_in w b)
      ≡ take (head_length w) (drop 0 b)
  head_again h =
      field_part b (w.head_kind ∷ digits 4 (ticks_in b) ++ digits 1 (engines_in b)) 0 6 w.duty_field 6 y
      (field_part b (w.head_kind ∷ digits 4 (ticks_in b)) 0 5 1 5 y
      (field_part b (w.head_kind ∷ []) 0 1 4 1 y (kind_part b 0 w.head_kind (head_length w) h.here (omega arith)) (omega arith)
      (omega (arith, h.here.room)))
      (omega arith) (omega (arith, h.here.room))) (omega arith) (omega (arith, h.here.room))

  -- a duty's record
  duty_again : (at : ℕ) → Standing b at 2 duty_length → duty_bytes (duty_in b at) ≡ take duty_length (drop at b)
  unfolding duty_bytes duty_in
  duty_again at h =
      field_part b (2 ∷ digits 4 (num_at 4 b (at + 1))) at 5 4 (at + 5) y
      (field_part b (2 ∷ []) at 1 4 (at + 1) y (kind_part b at 2 duty_length h (omega arith)) (omega arith) (omega (arith, h.room)))
      (omega arith) (omega (arith, h.room))

  -- a run's record
  run_again : (at : ℕ) → Standing b at w.run_kind (run_length w) → run_bytes w (run_in w b at) ≡ take (run_length w) (drop at b)
  unfolding run_bytes run_in
  run_again at h =
      let f = w.duty_field in
      let p1 = field_part b (w.run_kind ∷ []) at 1 1 (at + 1) y (kind_part b at w.run_kind (run_length w) h (omega arith)) (omega arith)
      (omega (arith, h.room)) in
      let p2 = field_part b _ at 2 f (at + 2) y p1 (omega arith) (omega (arith, h.room)) in
      let p3 = field_part b _ at (2 + f) 4 (at + 2 + f) y p2 (omega arith) (omega (arith, h.room)) in
      field_part b _ at (2 + f + 4) 4 (at + 6 + f) y p3 (omega arith) (omega (arith, h.room))
      ∙ cut_same b (2 + f + 4 + 4) (run_length w) at at (omega arith) refl

  -- the end record
  end_again : (at n : ℕ) → Standing b at 4 end_length → num_at 2 b (at + 1) ≡ n → end_bytes n ≡ take end_length (drop at b)
  unfolding end_bytes
  end_again at n h e =
      rw (← e) (field_part b (4 ∷ []) at 1 2 (at + 1) y (kind_part b at 4 end_length h (omega arith)) (omega arith) (omega (arith, h.room)))

-- ---- the whole

-- every record passed, and nothing follows the end record
pub record InForm (w : Width) (b : List ℕ) (n k : ℕ) : Type 0 where
  pub head : HeadTold w b
  pub count : duties_in w b ≡ n
  pub each_duty : (d : ℕ) → d < n → Standing b (duty_place w d) 2 duty_length × DutyRanged (duty_in b (duty_place w d))
  pub each_run :
      (j : ℕ) → j < k → Standing b (run_place w n j) w.run_kind (run_length w)
      × RunRanged (ticks_in b) (engines_in b) n (run_in w b (run_place w n j))
  pub few : k ≤ w.most_runs
  pub last : Standing b (run_place w n k) 4 end_length × (num_at 2 b (run_place w n k + 1) ≡ k)
  pub no_more : length b ≤ run_place w n k + end_length

-- bytes that read as a table are in form, and the table is the one in them
pub parsed :
    (w : Width) (b : List ℕ) (t : Table) → parse w b ≡ answer t
    → InForm w b (duties_in w b) (good_runs w b (duties_in w b)) × (table_in w b (duties_in w b) (good_runs w b (duties_in w b)) ≡ t)
unfolding parse after_head after_runs
parsed w b t h =
    let n = duties_in w b in
    let k = good_runs w b n in
    let at = run_place w n k in
    let duty_bad : ℕ → Bool = λ d. not (duty_good b (duty_place w d)) in
    let run-bad : ℕ → Bool = λ j. not (run_good w b (run_place w n j)) in
    let p1 = past (not (head_good w b)) 10 0 (after_head w b n) t h in
    let p2 = past (ltb (bad_duty w b n) n) 10 (duty_place w (bad_duty w b n)) (after_runs w b n k) t p1.1 in
    let p3 = past (not (end_good b at k)) 10 at _ t p2.1 in
    let p4 = past (ltb (at + end_length) (length b)) 10 (at + end_length) _ t p3.1 in (
      record {
        head = head_told w b (not-false (head_good w b) p1.0);
        count = refl;
        each_duty = λ d l. duty-told b (duty_place w d) (not-false (duty_good b (duty_place w d)) (none_clear duty_bad n p2.0 d l));
        each_run = λ j l. run-told w b (run_place w n j) (not-false (run_good w b (run_place w n j)) (first_clear run-bad w.most_runs j l));
        few = first-le run-bad w.most_runs;
        last = end_told b at k (not-false (end_good b at k) p3.0);
        no_more = ltb-false (at + end_length) (length b) p4.0;
      },
      answer_one (table_in w b n k) t p4.1,
    )

-- the table in bytes that are in form is in range
pub formed_ranged : (w : Width) (b : List ℕ) (n k : ℕ) → InForm w b n k → Ranged w (table_in w b n k)
unfolding table_in
formed_ranged w b n k f =
    record {
      ticks_least = f.head.ticks.0;
      ticks_most = f.head.ticks.1;
      engines_least = f.head.engines.0;
      engines_most = f.head.engines.1;
      duties_least = rw length-tab (omega (arith, f.head.duties, f.count));
      duties_most = rw length-tab (omega (arith, f.head.duties, f.count));
      runs_most = rw length-tab f.few;
      duty_ranged_lem = λ i h. let l = rw length-tab at h in rw (get_or-tab n (λ d. duty_in b (duty_place w d)) (duty 0 0) i l)
          (f.each_duty i l).1;
      run_ranged_lem = λ j h.
          let l = rw length-tab at h in
          rw (get_or-tab k (λ i. run_in w b (run_place w n i)) (run 0 0 0 0) j l, length-tab) (f.each_run j l).1;
    }

-- the head of that table's bytes is the head of these
head_formed : (w : Width) (b : List ℕ) (n k : ℕ) → AreBytes b → InForm w b n k → head_bytes w (table_in w b n k)
    ≡ take (head_length w) (drop 0 b)
unfolding head_bytes table_in
head_formed w b n k y f = rw (length-tab, ← f.count) (head_again w b y f.head)

-- and its bytes are those
pub formed-encode : (w : Width) (b : List ℕ) (n k : ℕ) → AreBytes b → InForm w b n k → encode w (table_in w b n k) ≡ b
unfolding encode table_in
formed-encode w b n k y f =
    let h = head_length w in
    let d = duty_length * n in
    let r = run_length w * k in
    let duties = cut_flat b duty_bytes duty_length n (λ i. duty_in b (duty_place w i)) h
    (λ i l. duty_again w b y (duty_place w i) (f.each_duty i l).0) in
    let runs = cut_flat b (run_bytes w) (run_length w) k (λ j. run_in w b (run_place w n j)) (h + d)
    (λ j l. run_again w b y (run_place w n j) (f.each_run j l).0) in
    rw (
      head_formed w b n k y f,
      duties,
      runs,
      length-tab,
      end_again w b y (run_place w n k) k f.last.0 f.last.1,
      ← take-add h d b,
      ← take-add (h + d) r b,
      ← take-add (h + d + r) end_length b,
    )
    (take_all (h + d + r + end_length) b f.no_more)

-- ---- the table that is read

-- a table that is read is in range
pub parse_ranged : (w : Width) (b : List ℕ) (t : Table) → parse w b ≡ answer t → Ranged w t
parse_ranged w b t h = let p = parsed w b t h in rw (← p.1) (formed_ranged w b (duties_in w b) (good_runs w b (duties_in w b)) p.0)

-- and written again it is the bytes
pub parse-told : (w : Width) (b : List ℕ) (t : Table) → AreBytes b → parse w b ≡ answer t → (encode w t ≡ b) × Ranged w t
parse-told w b t y h =
    let p = parsed w b t h in
    (rw (← p.1) (formed-encode w b (duties_in w b) (good_runs w b (duties_in w b)) y p.0), parse_ranged w b t h)

-- What reading a table's bytes comes to, test by test: the head, the duty records, then the record after the runs and whatever follows it.
-- For code that makes these tests in their order, and for bytes that are known to pass them.
-- Assumes nothing.
use Prim.Native.Nat.{ℕ, ◌+◌}
use mathlib.Core.Path.{◌≡◌}
use mathlib.Core.Bool.{true, false, not}
use mathlib.Core.List.{List}
use lib.Dec.{ltb}
use lib.ListN.{length}
use Rattle.paper.specs.Limits.{Width, end_length}
use Rattle.paper.specs.Outcome.{refused, answer}
use Rattle.paper.specs.Bytes.{duties_in, head_good, end_good, duty_place, run_place, bad_duty, good_runs, table_in, after_runs}
use Rattle.paper.specs.Bytes.{after_head, parse}

module _ (w : Width) (b : List ℕ) where
  -- the head
  pub head_bad : not (head_good w b) ≡ true → parse w b ≡ refused 10 0
  unfolding parse
  head_bad h = rw h

  pub head_good_lem : not (head_good w b) ≡ false → parse w b ≡ after_head w b (duties_in w b)
  unfolding parse
  head_good_lem h = rw h

  -- n duty records
  pub duty_bad : (n : ℕ) → ltb (bad_duty w b n) n ≡ true → after_head w b n ≡ refused 10 (duty_place w (bad_duty w b n))
  unfolding after_head
  duty_bad n h = rw h

  pub duties_good : (n : ℕ) → ltb (bad_duty w b n) n ≡ false → after_head w b n ≡ after_runs w b n (good_runs w b n)
  unfolding after_head
  duties_good n h = rw h

  -- the record after k runs, and what follows it
  pub end_bad : (n k : ℕ) → not (end_good b (run_place w n k) k) ≡ true → after_runs w b n k ≡ refused 10 (run_place w n k)
  unfolding after_runs
  end_bad n k h = rw h

  pub more_bytes : (n k : ℕ) → not (end_good b (run_place w n k) k) ≡ false → ltb (run_place w n k + end_length) (length b) ≡ true
      → after_runs w b n k ≡ refused 10 (run_place w n k + end_length)
  unfolding after_runs
  more_bytes n k h l = rw (h, l)

  pub all_good : (n k : ℕ) → not (end_good b (run_place w n k) k) ≡ false → ltb (run_place w n k + end_length) (length b) ≡ false
      → after_runs w b n k ≡ answer (table_in w b n k)
  unfolding after_runs
  all_good n k h l = rw (h, l)

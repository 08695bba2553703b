-- When a block of shares is good, in plain words: where none of 23's three causes holds of it. Each cause is a test over the duties or a
-- sum, so the test of the whole block decides it. What 23 finds is then the lowest block that is not good, and it finds none where all are.
-- Assumes nothing.
use Prim.Native.Nat.{ℕ, ◌+◌, ◌*◌, ◌%◌, ◌≤◌, ◌<◌, ◌∣◌}
use mathlib.Core.Path.{◌≡◌, sym, ap, ◌∙◌}
use mathlib.Core.Bool.{Bool, true, false, not, ◌||◌, not-not}
use mathlib.Core.Logic.{◌↔◌}
use native.Mathlib.Nat.{dvd_of_mod-eq-zero, mod-eq-zero_of_dvd}
use lib.Dec.{ltb, eqb}
use borrow.Author.Tests.{le-ltb, ltb-false, eqb-true, eq-eqb, not-true, not-false}
use Rattle.laws.specs.Search.{first, any}
use Rattle.laws.specs.Lists.{sum_of}
use Rattle.laws.proofs.Cases.{refuted, not_both, and_left, and_right, or_left, or_right}
use Rattle.laws.proofs.Decides.{Decides, Lowest, lowest_found, found_lowest, none_found}
use Rattle.laws.proofs.Search.{none_clear, clear_none, first_agree}
use Rattle.paper.specs.Bytes.{within}
use Rattle.paper.specs.Sa2.{Sharing, duty_count, duty_of, raised_units, needs_at, allotments}
use Rattle.paper.specs.Shares.{blocks, off_range, too_full, job_units, off_service, block_fails, failing}
use Rattle.paper.proofs.Passed.{From, within_decides}
use Rattle.share_laws.proofs.Steps.{period_of}

-- every duty gets 0 to T units, all of them no more than the engines have, and each job that ends with the block has had its service
pub record GoodBlock (s : Sharing) (b : ℕ) : Type 0 where
  pub units_ranged : (i : ℕ) → i < duty_count s → From 1 (s.ticks + 1) (raised_units s (needs_at s b) i)
  pub fits : sum_of (allotments s b) ≤ s.engines * s.ticks
  pub jobs_served : (i : ℕ) → i < duty_count s → period_of s i ∣ (b + 1) * s.ticks → job_units s b i ≡ (duty_of s i).service

-- a good block is one that does not fail
abbrev pub good : Sharing → ℕ → Bool
good s b = not (block_fails s b)

module _ (s : Sharing) (b : ℕ) where
  abbrev n : ℕ
  n = duty_count s

  -- a duty is not off exactly where it has its service at a job's end
  service_told : (i : ℕ) → off_service s b i ≡ false → period_of s i ∣ (b + 1) * s.ticks → job_units s b i ≡ (duty_of s i).service
  unfolding off_service
  service_told i h d =
      let ends = eq-eqb ((b + 1) * s.ticks % period_of s i) 0 (mod-eq-zero_of_dvd (period_of s i) d) in
      eqb-true (job_units s b i) (duty_of s i).service (not-false (eqb (job_units s b i) (duty_of s i).service) (rw ends at h))

  told_service : (i : ℕ) → (period_of s i ∣ (b + 1) * s.ticks → job_units s b i ≡ (duty_of s i).service) → off_service s b i ≡ false
  unfolding off_service
  told_service i f =
      let ends = eqb ((b + 1) * s.ticks % period_of s i) 0 in
      let had = eqb (job_units s b i) (duty_of s i).service in
      refuted (off_service s b i) (λ h.
      let d = dvd_of_mod-eq-zero (period_of s i) (eqb-true ((b + 1) * s.ticks % period_of s i) 0 (and_left ends (not had) h)) in
      not_both (eq-eqb (job_units s b i) (duty_of s i).service (f d)) (not-true had (and_right ends (not had) h)))

  good_told : good s b ≡ true → GoodBlock s b
  unfolding block_fails off_range too_full
  good_told h =
      let out = any (off_range s b) n in
      let off = any (off_service s b) n in
      let clear : block_fails s b ≡ false = not-true (block_fails s b) h in
      let front = or_left (out || too_full s b) off clear in
      record {
        units_ranged = λ i l. (within_decides 1 (s.ticks + 1) _).0 (not-false (within 1 (s.ticks + 1) (raised_units s (needs_at s b) i))
            (none_clear (off_range s b) n (or_left out (too_full s b) front) i l));
        fits = ltb-false (s.engines * s.ticks) (sum_of (allotments s b)) (or_right out (too_full s b) front);
        jobs_served = λ i l. service_told i (none_clear (off_service s b) n (or_right (out || too_full s b) off clear) i l);
      }

  told_good : GoodBlock s b → good s b ≡ true
  unfolding block_fails off_range too_full
  told_good g =
      let range : any (off_range s b) n ≡ false =
      clear_none (off_range s b) n
      (λ i l. ap not ((within_decides 1 (s.ticks + 1) (raised_units s (needs_at s b) i)).1 (g.units_ranged i l))) in
      let full : too_full s b ≡ false = le-ltb (s.engines * s.ticks) (sum_of (allotments s b)) g.fits in
      let service : any (off_service s b) n ≡ false = clear_none (off_service s b) n (λ i l. told_service i (g.jobs_served i l)) in
      rw (range, full, service)

  pub good_decides : Decides (good s b) (GoodBlock s b)
  good_decides = (good_told, told_good)

-- ---- all blocks

abbrev pub AllGood : Sharing → Type 0
AllGood s = (b : ℕ) → b < blocks s → GoodBlock s b

abbrev pub LowestBad : Sharing → ℕ → Type 0
LowestBad s b = Lowest (GoodBlock s) (blocks s) b

module _ (s : Sharing) where
  -- the first that fails is the first that is not good
  failing_is : failing s ≡ first (λ b. not (good s b)) (blocks s)
  unfolding failing
  failing_is = first_agree (block_fails s) (λ b. not (good s b)) (blocks s) (λ b l c. sym (not-not (block_fails s b)))

  -- what 23 finds is the lowest that is not good, ..
  pub failing_lowest : ltb (failing s) (blocks s) ≡ true → LowestBad s (failing s)
  failing_lowest h = rw failing_is (lowest_found (good_decides s) (blocks s) (rw failing_is at h))

  -- .. that is what it finds, ..
  pub lowest_failing : (b : ℕ) → LowestBad s b → failing s ≡ b
  lowest_failing b l = failing_is ∙ found_lowest (good_decides s) (blocks s) b l

  -- .. and it finds none exactly where all are good
  pub none_failing : (ltb (failing s) (blocks s) ≡ false) ↔ AllGood s
  none_failing = rw failing_is (none_found (good_decides s) (blocks s))

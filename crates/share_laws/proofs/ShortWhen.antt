-- Which of refusal 23's causes come up. Nobody is allotted more than T units (`share_most`), so a number of units out of range is -1. Where
-- nobody would get -1, a block's allotments are the needs' whole units and one for each that is chosen. At most F are chosen, and F is what
-- the whole units leave of the engines' units: so a block is too full only where the whole units alone are. And where nobody would get -1
-- up to the end of a job, the job had its service (`job_service`). So the first block that fails is the first with -1 units or too many
-- whole ones.
-- Assumes nothing.
use Prim.Native.Nat.{ℕ, zero, suc, ◌+◌, ◌*◌, ◌-◌, ◌%◌, ◌≤◌, ◌<◌}
use mathlib.Core.Path.{◌≡◌, refl, sym, ap, ◌∙◌}
use mathlib.Core.Bool.{true, false, not, ◌||◌, or-false}
use mathlib.Core.List.{List}
use native.Mathlib.Nat.{dvd_of_mod-eq-zero}
use native.Mathlib.Omega.{arith}
use lib.Dec.{ltb, eqb}
use borrow.Author.Tests.{ltb-true, lt-ltb, eqb-true, eq-eqb, eqb-false, not-true}
use borrow.Author.Count.{below_more}
use Rattle.laws.specs.Choice.{one_if}
use Rattle.laws.specs.Search.{first, any}
use Rattle.laws.specs.Lists.{sum_of}
use Rattle.laws.specs.Sum.{sum_to}
use Rattle.laws.proofs.Cases.{by_cases, lt_or_le, both_ways, refuted, not_both, and_left, and_right, or_left}
use Rattle.laws.proofs.Decides.{fails}
use Rattle.laws.proofs.Search.{Clear, first_agree, any_agree, none_clear, clear_none}
use Rattle.laws.proofs.Sum.{sum_none, sum_suc, sum_ext, sum_plus, sum_const, sum_tab}
use Rattle.paper.specs.Bytes.{within}
use Rattle.paper.specs.Sa2.{Sharing, duty_count, duty_of, whole_of, wants, wanting_to, free, chosen, raised_units, needs_at, allotments}
use Rattle.paper.specs.Shares.{blocks, off_range, too_full, job_units, off_service, block_fails, failing}
use Rattle.paper.proofs.Passed.{within_decides}
use Rattle.share_laws.specs.Short.{lacks, overfull, short}
use Rattle.share_laws.proofs.Steps.{period_of, Enough, InBlocks, job_service, share_most}

-- ---- at most F are chosen

-- how many are chosen before duty i
abbrev pub chosen_to : Sharing → List ℕ → ℕ → ℕ
chosen_to s ws i = sum_to i (λ j. one_if (chosen s ws j))

-- each of them wants a unit, and the last of them has fewer than F before it
chosen_below : (s : Sharing) (ws : List ℕ) (i : ℕ) → (chosen_to s ws i ≤ wanting_to s ws i) × (chosen_to s ws i ≤ free s ws)
unfolding wanting_to chosen
chosen_below s ws zero = omega (arith, sum_none (λ j. one_if (chosen s ws j)))
chosen_below s ws (suc k) =
    let f : ℕ → ℕ = λ i. one_if (chosen s ws i) in
    let g : ℕ → ℕ = λ i. one_if (wants s ws i) in
    let before = chosen_below s ws k in
    let low = ltb (sum_to k g) (free s ws) in
    by_cases (chosen s ws k)
    (λ h.
    let w : wants s ws k ≡ true = and_left (wants s ws k) low h in
    let l : sum_to k g < free s ws = ltb-true (sum_to k g) (free s ws) (and_right (wants s ws k) low h) in
    omega (arith, before, sum_suc k f, sum_suc k g, ap one_if h, ap one_if w, l))
    (λ h. omega (arith, before, sum_suc k f, sum_suc k g, ap one_if h))

pub chosen_most : (s : Sharing) (ws : List ℕ) → chosen_to s ws (duty_count s) ≤ free s ws
chosen_most s ws = (chosen_below s ws (duty_count s)).1

-- ---- a block's units

-- a duty that does not lack gets 0 units or more
lacks_not : (s : Sharing) (ws : List ℕ) (i : ℕ) → lacks s ws i ≡ false → 1 ≤ raised_units s ws i
unfolding lacks
lacks_not s ws i h = lt_or_le 0 (raised_units s ws i) (λ l. l) (λ l. absurd (eqb-false (raised_units s ws i) 0 h (omega arith)))

-- the units of such a block are the whole ones and those of the chosen
units_all :
    (s : Sharing) (b : ℕ) → Clear (lacks s (needs_at s b)) (duty_count s)
    → sum_of (allotments s b) + duty_count s ≡ sum_to (duty_count s) (whole_of s (needs_at s b)) + chosen_to s (needs_at s b) (duty_count s)
unfolding allotments raised_units
units_all s b c =
    let n = duty_count s in
    let ws = needs_at s b in
    let f : ℕ → ℕ = λ i. raised_units s ws i - 1 in
    let g : ℕ → ℕ = λ i. one_if (chosen s ws i) in
    let each : sum_to n (λ i. f i + 1) ≡ sum_to n (λ i. whole_of s ws i + g i) =
    sum_ext n (λ i. f i + 1) (λ i. whole_of s ws i + g i) (λ i l. omega (arith, lacks_not s ws i (c i l))) in
    omega (arith, sum_tab n f, sum_const n 1, sum_plus n f (λ i. 1), each, sum_plus n (whole_of s ws) g)

-- F, which is 0 where the whole units are more than the engines have
free_is : (s : Sharing) (ws : List ℕ) → free s ws ≡ s.engines * s.ticks + duty_count s - sum_to (duty_count s) (whole_of s ws)
unfolding free
free_is s ws = refl

-- so it is too full only where the whole units alone are too many
pub full_over : (s : Sharing) (b : ℕ) → Clear (lacks s (needs_at s b)) (duty_count s) → too_full s b ≡ overfull s (needs_at s b)
unfolding too_full overfull
full_over s b c =
    let n = duty_count s in
    let ws = needs_at s b in
    let most = s.engines * s.ticks in
    let all = units_all s b c in
    both_ways (too_full s b) (overfull s ws)
    (λ p.
    let above : most < sum_of (allotments s b) = ltb-true most (sum_of (allotments s b)) p in
    lt-ltb (most + n) (sum_to n (whole_of s ws)) (omega (arith, above, all, chosen_most s ws, free_is s ws)))
    (λ p.
    let above : most + n < sum_to n (whole_of s ws) = ltb-true (most + n) (sum_to n (whole_of s ws)) p in
    lt-ltb most (sum_of (allotments s b)) (omega (arith, above, all)))

module _ (s : Sharing) (c : InBlocks s) where
  -- ---- more than T

  -- a number of units out of range is -1: it is never more than T
  pub never_above : (b i : ℕ) → i < duty_count s → off_range s b i ≡ true → raised_units s (needs_at s b) i ≡ 0
  unfolding off_range
  never_above b i l h =
      let r = raised_units s (needs_at s b) i in
      let x = c.ranges i l in
      let out = fails (within 1 (s.ticks + 1) r) (within_decides 1 (s.ticks + 1) r) (not-true (within 1 (s.ticks + 1) r) h) in
      lt_or_le 0 r (λ a. absurd (out (a, share_most s i l b x.period_least x.service_most))) (λ a. omega arith)

  range_lacks : (b i : ℕ) → i < duty_count s → off_range s b i ≡ lacks s (needs_at s b) i
  unfolding off_range lacks
  range_lacks b i l =
      let r = raised_units s (needs_at s b) i in
      both_ways (off_range s b i) (eqb r 0) (λ p. eq-eqb r 0 (never_above b i l p)) (λ p. rw (eqb-true r 0 p))

  -- ---- a job other than its service

  -- where no earlier block fails, nobody got -1 before
  pub clear_enough : (b i : ℕ) → i < duty_count s → Clear (block_fails s) b → Enough s b i
  unfolding block_fails
  clear_enough b i l f k h =
      let n = duty_count s in
      let out = any (off_range s k) n in
      let off = any (off_service s k) n in
      let none = or_left out (too_full s k) (or_left (out || too_full s k) off (f k h)) in
      lacks_not s (needs_at s k) i (sym (range_lacks k i l) ∙ none_clear (off_range s k) n none i l)

  -- and where the block gives the duty 0 units or more too, a job that ends with it has its service: this cause never comes up alone
  pub service_not_alone :
      (b i : ℕ) → i < duty_count s → Clear (block_fails s) b → 1 ≤ raised_units s (needs_at s b) i → off_service s b i ≡ false
  unfolding off_service
  service_not_alone b i l f a =
      let x = c.ranges i l in
      let D = period_of s i in
      let ends = eqb ((b + 1) * s.ticks % D) 0 in
      let wrong = eqb (job_units s b i) (duty_of s i).service in
      refuted (off_service s b i) (λ h.
      let d = dvd_of_mod-eq-zero D (eqb-true ((b + 1) * s.ticks % D) 0 (and_left ends (not wrong) h)) in
      let e : Enough s (b + 1) i = below_more (λ k. 1 ≤ raised_units s (needs_at s k) i) b (clear_enough b i l f) a in
      let served = job_service s i l b x.period_least c.ticks_some (c.ticks_divides i l) d e in
      not_both (eq-eqb (job_units s b i) (duty_of s i).service served) (not-true wrong (and_right ends (not wrong) h)))

  -- ---- what is left

  -- a block before which none fails fails where it comes short
  pub fails_short : (b : ℕ) → Clear (block_fails s) b → block_fails s b ≡ short s (needs_at s b)
  unfolding block_fails short
  fails_short b f =
      let n = duty_count s in
      let ws = needs_at s b in
      rw (any_agree (off_range s b) (lacks s ws) n (range_lacks b))
      (by_cases (any (lacks s ws) n)
      (λ h. rw h)
      (λ h.
      let none = none_clear (lacks s ws) n h in
      let off : any (off_service s b) n ≡ false =
      clear_none (off_service s b) n (λ i l. service_not_alone b i l f (lacks_not s ws i (none i l))) in
      rw (h, off, full_over s b none) (or-false (overfull s ws))))

  -- so the first that fails is the first that comes short
  pub failing_short : failing s ≡ first (λ b. short s (needs_at s b)) (blocks s)
  unfolding failing
  failing_short = first_agree (block_fails s) (λ b. short s (needs_at s b)) (blocks s) (λ b l f. fails_short b f)

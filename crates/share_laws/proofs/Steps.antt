-- SA2's need in closed form. A block adds a duty's share T·C/D to its need, and takes off what the duty is allotted. So before block b the
-- need is (b + 1)·T·C/D less what the duty had in the blocks before, as long as it had no -1 units there. What the need is past a whole
-- number then depends on b alone. At the end of a job (b + 1)·T·C/D is whole, nothing is past it and the duty is not chosen: it has had
-- just its jobs' service. A need is at most a share and a part of a unit, and a share is at most T: so its whole units are at most T, and
-- whoever is chosen has fewer. Nobody is allotted more than T.
-- Assumes nothing.
use Prim.Native.Nat.{ℕ, zero, suc, ◌+◌, ◌*◌, ◌-◌, ◌/◌, ◌%◌, ◌≤◌, ◌<◌, ◌∣◌}
use mathlib.Core.Path.{◌≡◌, sym, ap, ◌∙◌}
use mathlib.Core.Bool.{true, false}
use native.Mathlib.Nat.{add-zero, mul_assoc, mul-le-mul_left, eq_of_mul-eq-mul_left, div-add-mod, mod-lt, add-mod_right, add-mod-mod}
use native.Mathlib.Nat.{mul-add-div, add-div_right, div-lt_iff_lt-mul, div-mul_cancel, mod-eq-zero_of_dvd, le_of_dvd, dvd_refl, dvd-sub}
use native.Mathlib.Nat.{dvd-mul_right_of_dvd, mul-dvd-mul_right, dvd_of_mul-dvd-mul_right}
use native.Mathlib.Numerals.{add-one}
use native.Mathlib.Omega.{arith}
use lib.Dec.{ltb}
use lib.ListN.{get_or}
use borrow.Author.Tests.{ltb-true}
use Rattle.laws.specs.Sum.{sum_to}
use Rattle.laws.proofs.Cases.{by_cases, refuted, and_left, and_right}
use Rattle.laws.proofs.Lists.{get_or-tab}
use Rattle.laws.proofs.Sum.{sum_none, sum_suc, sum_split}
use Rattle.paper.specs.Sa2.{Sharing, duty_count, duty_of, share_of, first_need, whole_of, part_of, wants, wanting_to, free, chosen}
use Rattle.paper.specs.Sa2.{raised_units, next_need, needs_at, allotments}
use Rattle.paper.specs.Shares.{job_units}
use Rattle.paper.proofs.Passed.{Ranges}

-- ---- words

-- D of duty i, and its raised need before block b
abbrev pub period_of : Sharing → ℕ → ℕ
period_of s i = (duty_of s i).period

abbrev pub need_of : Sharing → (b i : ℕ) → ℕ
need_of s b i = get_or (needs_at s b) i 0

-- the units that duty i is allotted in block b, and in the blocks before it
abbrev pub units_in : Sharing → (b i : ℕ) → ℕ
units_in s b i = get_or (allotments s b) i 0

abbrev pub had_to : Sharing → (b i : ℕ) → ℕ
had_to s b i = sum_to b (λ k. units_in s k i)

-- in no block before b would it get -1 units
abbrev pub Enough : Sharing → (b i : ℕ) → Type 0
Enough s b i = (k : ℕ) → k < b → 1 ≤ raised_units s (needs_at s k) i

-- duties in range, whose periods are whole numbers of blocks
pub record InBlocks (s : Sharing) : Type 0 where
  pub ranges : Ranges s.duties
  pub ticks_some : 0 < s.ticks
  pub ticks_divides : (i : ℕ) → i < duty_count s → s.ticks ∣ period_of s i

-- ---- one block

-- a need is its whole units and its part
pub need_split : (s : Sharing) (b i : ℕ) → period_of s i * whole_of s (needs_at s b) i + part_of s (needs_at s b) i ≡ need_of s b i
need_split s b i = div-add-mod (need_of s b i) (period_of s i)

-- whoever is chosen has a part, and whole units below T
pub chosen_part : (s : Sharing) (b i : ℕ) → chosen s (needs_at s b) i ≡ true → 0 < part_of s (needs_at s b) i
unfolding chosen wants
chosen_part s b i h =
    let ws = needs_at s b in
    let some = ltb 0 (part_of s ws i) in
    let below = ltb (whole_of s ws i) (s.ticks + 1) in
    ltb-true 0 (part_of s ws i) (and_left some below (and_left (wants s ws i) (ltb (wanting_to s ws i) (free s ws)) h))

pub chosen-whole : (s : Sharing) (b i : ℕ) → chosen s (needs_at s b) i ≡ true → whole_of s (needs_at s b) i < s.ticks + 1
unfolding chosen wants
chosen-whole s b i h =
    let ws = needs_at s b in
    let some = ltb 0 (part_of s ws i) in
    let below = ltb (whole_of s ws i) (s.ticks + 1) in
    ltb-true (whole_of s ws i) (s.ticks + 1) (and_right some below (and_left (wants s ws i) (ltb (wanting_to s ws i) (free s ws)) h))

module _ (s : Sharing) (i : ℕ) (l : i < duty_count s) where
  -- the need at first, and after a block
  pub need_first : need_of s 0 i ≡ first_need s i
  unfolding needs_at
  need_first = get_or-tab (duty_count s) (first_need s) 0 i l

  pub need_next : (b : ℕ) → need_of s (suc b) i ≡ next_need s (needs_at s b) i
  unfolding needs_at
  need_next b = get_or-tab (duty_count s) (next_need s (needs_at s b)) 0 i l

  -- the units allotted
  pub units_are : (b : ℕ) → units_in s b i ≡ raised_units s (needs_at s b) i - 1
  unfolding allotments
  units_are b = get_or-tab (duty_count s) (λ j. raised_units s (needs_at s b) j - 1) 0 i l

  -- ---- the closed form

  -- a share more, and what a unit more or less leaves is the same
  part_next : (b : ℕ) → need_of s (suc b) i % period_of s i ≡ (share_of s i + need_of s b i % period_of s i) % period_of s i
  unfolding next_need
  part_next b =
      let ws = needs_at s b in
      by_cases (chosen s ws i)
      (λ h. rw (need_next b, h, add-zero (share_of s i + part_of s ws i)))
      (λ h. rw (need_next b, h) (add-mod_right (share_of s i + part_of s ws i) (period_of s i)))

  -- what a need is past a whole number, in D-ths, depends on the block alone
  pub part_closed : (b : ℕ) → part_of s (needs_at s b) i ≡ (b + 1) * share_of s i % period_of s i
  part_closed zero =
      let once : (0 + 1) * share_of s i ≡ share_of s i = omega arith in
      rw (need_first, once) (add-mod_right (share_of s i) (period_of s i))
  part_closed (suc b) =
      let more : share_of s i + (b + 1) * share_of s i ≡ (suc b + 1) * share_of s i = omega arith in
      rw (part_next b, part_closed b)
      (add-mod-mod (share_of s i) ((b + 1) * share_of s i) (period_of s i) ∙ ap (λ (k : ℕ). k % period_of s i) more)

  -- a block takes from a need what it allots, and adds a share
  need_step : (b : ℕ) → 1 ≤ raised_units s (needs_at s b) i → period_of s i * units_in s b i + need_of s (suc b) i
      ≡ need_of s b i + share_of s i
  unfolding next_need raised_units
  need_step b a =
      let ws = needs_at s b in
      by_cases (chosen s ws i)
      (λ h.
      let units : units_in s b i ≡ whole_of s ws i = units_are b ∙ rw h (omega arith) in
      let next : need_of s (suc b) i ≡ share_of s i + part_of s ws i + 0 = need_next b ∙ rw h in
      rw (units, next) (omega (arith, need_split s b i)))
      (λ h.
      let some : 1 ≤ whole_of s ws i + 0 = rw h at a in
      let units : units_in s b i + 1 ≡ whole_of s ws i = rw (units_are b, h) (omega arith) in
      let next : need_of s (suc b) i ≡ share_of s i + part_of s ws i + period_of s i = need_next b ∙ rw h in
      rw next (omega (arith, need_split s b i, ap (λ (k : ℕ). period_of s i * k) units)))

  -- the need before block b: (b + 1) shares, less what the duty had
  pub need_closed : (b : ℕ) → Enough s b i → period_of s i * had_to s b i + need_of s b i ≡ (b + 1) * share_of s i + period_of s i
  need_closed zero e = rw (sum_none (λ k. units_in s k i)) (omega (arith, need_first))
  need_closed (suc b) e = rw (sum_suc b (λ k. units_in s k i))
      (omega (arith, need_step b (e b (omega arith)), need_closed b (λ k h. e k (omega arith))))

  -- so of whole units it has those of (b + 1) shares, less what it had, and the one that raises them
  pub floor_closed : (b : ℕ) → 0 < period_of s i → Enough s b i → had_to s b i + whole_of s (needs_at s b) i
      ≡ (b + 1) * share_of s i / period_of s i + 1
  floor_closed b p e =
      sym (mul-add-div p (had_to s b i) (need_of s b i))
      ∙ ap (λ (k : ℕ). k / period_of s i) (need_closed b e)
      ∙ add-div_right ((b + 1) * share_of s i) p

  -- a need is never down to -1: step 4 takes less than a unit from a share
  pub need_least : (b : ℕ) → 0 < period_of s i → 1 ≤ need_of s b i
  unfolding next_need
  need_least zero p = omega (arith, need_first)
  need_least (suc b) p =
      let ws = needs_at s b in
      by_cases (chosen s ws i)
      (λ h. rw (need_next b, h) (omega (arith, chosen_part s b i h)))
      (λ h. rw (need_next b, h) (omega arith))

  -- ---- the end of a job

  -- where a job ends with block b, nothing is past a whole number, ..
  end_part : (b : ℕ) → period_of s i ∣ (b + 1) * s.ticks → part_of s (needs_at s b) i ≡ 0
  end_part b d =
      let shares : (b + 1) * s.ticks * (duty_of s i).service ≡ (b + 1) * share_of s i = mul_assoc (b + 1) s.ticks (duty_of s i).service in
      part_closed b ∙ mod-eq-zero_of_dvd (period_of s i) (rw shares at (dvd-mul_right_of_dvd (period_of s i) d (duty_of s i).service))

  -- .. and the duty is not chosen
  pub end_unchosen : (b : ℕ) → period_of s i ∣ (b + 1) * s.ticks → chosen s (needs_at s b) i ≡ false
  end_unchosen b d = refuted (chosen s (needs_at s b) i) (λ h. absurd (omega (arith, chosen_part s b i h, end_part b d)))

  -- there the duty has had b shares
  pub had_end : (b : ℕ) → period_of s i ∣ b * s.ticks → Enough s b i → period_of s i * had_to s b i ≡ b * share_of s i
  unfolding raised_units
  had_end zero d e = rw (sum_none (λ k. units_in s k i)) (omega arith)
  had_end (suc b) d e =
      let ws = needs_at s b in
      let d' : period_of s i ∣ (b + 1) * s.ticks = rw add-one d in
      let h = end_unchosen b d' in
      let some : 1 ≤ whole_of s ws i + 0 = rw h at (e b (omega arith)) in
      let units : units_in s b i + 1 ≡ whole_of s ws i = rw (units_are b, h) (omega arith) in
      rw (sum_suc b (λ k. units_in s k i))
      (omega (
        arith,
        need_split s b i,
        end_part b d',
        need_closed b (λ k g. e k (omega arith)),
        ap (λ (k : ℕ). period_of s i * k) units,
      ))

  -- so a job that ends with block b, and had enough up to there, got its service
  pub job_service :
      (b : ℕ) → 0 < period_of s i → 0 < s.ticks → s.ticks ∣ period_of s i → period_of s i ∣ (b + 1) * s.ticks
      → Enough s (b + 1) i → job_units s b i ≡ (duty_of s i).service
  unfolding job_units
  job_service b p t d f e =
      let D = period_of s i in
      let C = (duty_of s i).service in
      let n = D / s.ticks in
      let a = b + 1 - n in
      let whole : n * s.ticks ≡ D = div-mul_cancel s.ticks d in
      let past : n ∣ b + 1 = dvd_of_mul-dvd-mul_right n t (rw whole f) in
      let split : b + 1 ≡ a + n = omega (arith, le_of_dvd {n = b + 1} (omega arith) past) in
      let before : D ∣ a * s.ticks = rw whole at (mul-dvd-mul_right n (dvd-sub n past (dvd_refl n)) s.ticks) in
      let total : had_to s (b + 1) i ≡ had_to s a i + sum_to n (λ j. units_in s (a + j) i) =
      ap (λ (k : ℕ). had_to s k i) split ∙ sum_split a n (λ k. units_in s k i) in
      let last : n * share_of s i ≡ D * C = sym (mul_assoc n s.ticks C) ∙ ap (λ (k : ℕ). k * C) whole in
      let job : D * sum_to n (λ j. units_in s (a + j) i) ≡ D * C =
      omega (
        arith,
        ap (λ (k : ℕ). D * k) total,
        had_end (b + 1) f e,
        had_end a before (λ k h. e k (omega arith)),
        ap (λ (k : ℕ). k * share_of s i) split,
        last,
      ) in
      eq_of_mul-eq-mul_left D p _ C job

  -- ---- the most that is allotted

  -- a need is at most a share and a part of a unit, and a share is at most T: its whole units are at most T
  pub whole_most : (b : ℕ) → 0 < period_of s i → (duty_of s i).service ≤ period_of s i → whole_of s (needs_at s b) i ≤ s.ticks + 1
  unfolding next_need
  whole_most zero p c =
      let below : need_of s 0 i < (s.ticks + 2) * period_of s i = omega (arith, need_first, mul-le-mul_left s.ticks c) in
      omega (arith, (div-lt_iff_lt-mul p).1 below)
  whole_most (suc b) p c =
      let ws = needs_at s b in
      let most : need_of s (suc b) i ≤ share_of s i + part_of s ws i + period_of s i =
      by_cases (chosen s ws i) (λ h. rw (need_next b, h) (omega arith)) (λ h. rw (need_next b, h) (omega arith)) in
      let below : need_of s (suc b) i < (s.ticks + 2) * period_of s i =
      omega (arith, most, mod-lt (need_of s b i) p, mul-le-mul_left s.ticks c) in
      omega (arith, (div-lt_iff_lt-mul p).1 below)

  -- and whoever is chosen is below T: nobody is allotted more than T
  pub share_most : (b : ℕ) → 0 < period_of s i → (duty_of s i).service ≤ period_of s i → raised_units s (needs_at s b) i ≤ s.ticks + 1
  unfolding raised_units
  share_most b p c =
      by_cases (chosen s (needs_at s b) i)
      (λ h. rw h (omega (arith, chosen-whole s b i h)))
      (λ h. rw h (omega (arith, whole_most b p c)))

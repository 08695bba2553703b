-- The common multiple of the duties' periods, period after period, and the ticks that the duties ask for up to there. What the first i
-- periods have for their multiple, with those that are left, has the multiple of them all; so it divides that one, and once it is too much
-- that one is.
-- Assumes nothing.
use Prim.Native.Nat.{ℕ, ◌+◌, ◌-◌, ◌*◌, ◌/◌, ◌^◌, ◌≤◌, ◌<◌, ◌∣◌}
use mathlib.Core.Path.{◌≡◌, refl, sym, ap, ◌∙◌}
use mathlib.Core.Bool.{Bool, true, false}
use mathlib.Core.List.{List}
use native.Mathlib.Nat.{le_of_dvd, pos_of_dvd_of_pos, mul-lt-mul_of_pos_right, lt_of_mul-lt-mul_right}
use native.Mathlib.Omega.{arith}
use lib.Dec.{ltb}
use borrow.Author.Tests.{ltb-true, ltb-false, lt-ltb, le-ltb}
use lib.ListN.{length, drop, length-map, get_or-map}
use Rattle.laws.specs.Divisor.{lcm, lcm_of}
use Rattle.laws.specs.Sum.{sum_to}
use Rattle.laws.proofs.Cases.{by_cases, both_ways}
use Rattle.laws.proofs.Multiple.{lcm_left, lcm-start, lcm_further, lcm-finished}
use Rattle.laws.proofs.Sum.{sum_none, sum_more}
use Rattle.paper.specs.declared.Duty.{Duty}
use Rattle.paper.specs.Duties.{duty, duty_at, periods_of, asks, asked_in}
use Rattle.paper.specs.Limits.{most_share_blocks}
use Rattle.paper.specs.Outcome.{refused, answer}
use Rattle.paper.specs.Sa2.{Sharing, sharing}
use Rattle.paper.specs.Shares.{common, blocks, overloaded, sharable, shared}
use Rattle.paper.specs.Wanted.{Wanted, duty_set, taken}
use Rattle.paper.specs.Words.{block_length_of}
use Rattle.paper.proofs.Passed.{Ranges}
use Rattle.plan_laws.proofs.Periods.{multiple_some}
use Rattle.plan_laws.proofs.TakenWhen.{taken_told}
use Rattle.plan_laws.proofs.Planned.{length_duties}
use Rattle.plan_laws.proofs.Sa1Table.{ticks_within}
use Rattle.share_laws.proofs.Blocks.{blocks_whole, blocks_some, taken_some, taken_in_blocks}
use Rattle.share_common.specs.Common.{Shareable, Counted}

-- ---- the common multiple

-- m is what i periods have come to
pub record Gone (t : ℕ) (ds : List Duty) (i m : ℕ) : Type 0 where
  pub some : 0 < m
  pub few : m ≤ most_share_blocks * t
  pub left : lcm m (lcm_of (drop i (periods_of ds))) ≡ lcm_of (periods_of ds)

pub gone_none : {t : ℕ} (ds : List Duty) → 1 ≤ t → Gone t ds 0 1
gone_none ds h = record { some = omega arith; few = omega arith; left = lcm-start (lcm_of (periods_of ds)) }

module _ {t i m : ℕ} {ds : List Duty} (r : Ranges ds) (g : Gone t ds i m) where
  module _ (h : i < length ds) where
    -- with one period more it divides the common multiple still
    next : lcm (lcm m (duty_at ds i).period) (lcm_of (drop (i + 1) (periods_of ds))) ≡ lcm_of (periods_of ds)
    next =
        let h' : i < length (periods_of ds) = rw (length-map ds (λ x. x.period)) h in
        let here = get_or-map (λ (x : Duty). x.period) ds i (duty 0 0) in
        rw here at (lcm_further m i (periods_of ds) h') ∙ g.left

    divides : lcm m (duty_at ds i).period ∣ lcm_of (periods_of ds)
    divides = rw next at (lcm_left (lcm m (duty_at ds i).period) (lcm_of (drop (i + 1) (periods_of ds))))

    pub gone_within : lcm m (duty_at ds i).period ≤ lcm_of (periods_of ds)
    gone_within = le_of_dvd (multiple_some ds r) divides

    pub gone_more : (n : ℕ) → n ≡ lcm m (duty_at ds i).period → n ≤ most_share_blocks * t → Gone t ds (i + 1) n
    gone_more n e l = record { some = rw e (pos_of_dvd_of_pos divides (multiple_some ds r)); few = l; left = rw e next }

  pub gone_end : length ds ≤ i → m ≡ lcm_of (periods_of ds)
  gone_end h = sym (lcm-finished m i (periods_of ds) (rw (length-map ds (λ x. x.period)) h)) ∙ g.left

-- ---- what the duties ask for

-- i duties ask for so much; none asks for more than the ticks
pub record Asking (ds : List Duty) (ticks i asked : ℕ) : Type 0 where
  pub sum : asked ≡ sum_to i (λ k. asks ticks (duty_at ds k))
  pub most : asked ≤ (2 ^ 32 - 1) * i

pub asking_none : (ds : List Duty) (ticks : ℕ) → Asking ds ticks 0 0
asking_none ds ticks = record { sum = sym (sum_none (λ k. asks ticks (duty_at ds k))); most = omega arith }

pub asking_more :
    {ds : List Duty} {ticks i asked : ℕ} (x : Duty) (n : ℕ) → Asking ds ticks i asked → x ≡ duty_at ds i → n ≡ asks ticks x → n ≤ 2 ^ 32 - 1
    → Asking ds ticks (i + 1) (asked + n)
asking_more {ds} {ticks} {i} x n a e f l =
    let here : n ≡ asks ticks (duty_at ds i) = f ∙ ap (asks ticks) e in
    record { sum = omega (arith, a.sum, here, sum_more i (λ k. asks ticks (duty_at ds k))); most = omega (arith, a.most) }

pub asking_end : {ds : List Duty} {ticks i asked : ℕ} → Asking ds ticks i asked → i ≡ length ds → asked ≡ asked_in ticks ds
asking_end {ds} {ticks} a e = a.sum ∙ ap (λ (k : ℕ). sum_to k (λ j. asks ticks (duty_at ds j))) e

-- ---- 22 and 7

module _ (s : Sharing) (k : Shareable s) where
  common_is : common s ≡ lcm_of (periods_of s.duties)
  unfolding common
  common_is = refl

  -- more than so many blocks are more than their ticks
  many_is : ltb most_share_blocks (blocks s) ≡ ltb (most_share_blocks * s.ticks) (lcm_of (periods_of s.duties))
  many_is =
      let t = s.ticks in
      let n = blocks s in
      let m = lcm_of (periods_of s.duties) in
      let whole : n * t ≡ m = blocks_whole s k.in_blocks k.some ∙ common_is in
      both_ways (ltb most_share_blocks n) (ltb (most_share_blocks * t) m)
      (λ p.
      let more = mul-lt-mul_of_pos_right (ltb-true most_share_blocks n p) k.in_blocks.ticks_some in
      lt-ltb (most_share_blocks * t) m (rw whole at more))
      (λ p.
      let more : most_share_blocks * t < n * t = rw whole (ltb-true (most_share_blocks * t) m p) in
      lt-ltb most_share_blocks n (lt_of_mul-lt-mul_right t more))

  -- 22
  pub many : (lcm_of (periods_of s.duties) ≤ most_share_blocks * s.ticks → ⊥) → sharable s ≡ refused 22 0
  unfolding sharable
  many h = by_cases (ltb most_share_blocks (blocks s)) (λ p. rw p) (λ p. absurd (h (ltb-false _ _ (sym many_is ∙ p))))

  module _ (n : ℕ) (e : n ≡ lcm_of (periods_of s.duties)) (h : lcm_of (periods_of s.duties) ≤ most_share_blocks * s.ticks) where
    few : ltb most_share_blocks (blocks s) ≡ false
    few = many_is ∙ le-ltb (most_share_blocks * s.ticks) (lcm_of (periods_of s.duties)) h

    -- the blocks
    pub counted : Counted s (n / s.ticks)
    unfolding blocks common
    counted =
        let here : n / s.ticks ≡ blocks s = rw e in
        record {
          shareable = k;
          blocks_are = here;
          blocks_some = rw here (blocks_some s k.in_blocks k.some);
          blocks_few = rw here (ltb-false most_share_blocks (blocks s) few);
        }

    module _ (over : Bool) (told : over ≡ ltb (s.engines * n) (asked_in n s.duties)) where
      overloaded_is : overloaded s ≡ over
      unfolding overloaded common
      overloaded_is = sym (told ∙ ap (λ (l : ℕ). ltb (s.engines * l) (asked_in l s.duties)) e)

      -- 7
      pub much : over ≡ true → sharable s ≡ refused 7 0
      unfolding sharable
      much p = rw (few, overloaded_is, p)

      pub fits : over ≡ false → sharable s ≡ answer s
      unfolding sharable
      fits p = rw (few, overloaded_is, p)

-- ---- duties that were taken

module _ (x : Wanted) (ds : List Duty) (t : ℕ) (e : answer ds ≡ taken x) (f : t ≡ block_length_of ds) where
  abbrev s : Sharing
  s = sharing t x.engines ds

  -- in blocks of their greatest length they are shareable
  pub taken_shareable : Shareable s
  taken_shareable =
      let z = taken_told x ds (sym e) in
      let blocks = taken_in_blocks x z.0 in
      let n = length_duties x.services x.periods in
      rw (f, z.1)
      record {
        in_blocks = blocks;
        ticks_most = ticks_within (block_length_of (duty_set x)) (duty_set x) (taken_some x z.0) z.0.ranges blocks.ticks_divides;
        engines_most = z.0.counts.engines.1;
        some = taken_some x z.0;
        few = omega (arith, n, z.0.counts.duties);
      }

  pub shared_is : shared x ≡ sharable s
  shared_is = rw (← e, f)

-- The first needs. Before block 0 a need is the share itself, so it has the share's whole units, with the one that raises them, and the
-- share's part. A loop over the duties fills the lists, and adds up the whole units.
-- Assumes nothing.
use Prim.Native.Nat.{ℕ, ◌+◌, ◌*◌, ◌/◌, ◌%◌, ◌≤◌, ◌<◌}
use mathlib.Core.Path.{◌≡◌, sym, ap, ◌∙◌}
use mathlib.Core.List.{List}
use native.Mathlib.Nat.{add-div_right, add-mod_right}
use native.Mathlib.Omega.{arith}
use lib.ListN.{set, replicate}
use Rattle.laws.specs.Sum.{sum_to}
use Rattle.laws.proofs.Sum.{sum_none, sum_more}
use Rattle.laws.proofs.Lists.{Filled, filled_none, filled_more}
use Rattle.paper.specs.Limits.{most_ticks, most_duties}
use Rattle.paper.specs.Sa2.{Sharing, duty_count, duty_of, share_of, whole_of, part_of, needs_at}
use Rattle.share_laws.proofs.Steps.{need_first}
use Rattle.share_common.specs.Common.{Shareable}
use Rattle.share_block.specs.declared.Lists.{Lists}
use Rattle.share_block.specs.Paced.{Paced}

-- i duties are begun
pub record Begun (s : Sharing) (i total : ℕ) (l : Lists) : Type 0 where
  pub periods_are : Filled (λ k. (duty_of s k).period) most_duties i l.periods
  pub rates : Filled (λ k. share_of s k / (duty_of s k).period) most_duties i l.rate
  pub rests : Filled (λ k. share_of s k % (duty_of s k).period) most_duties i l.rest
  pub wholes : Filled (whole_of s (needs_at s 0)) most_duties i l.whole
  pub parts : Filled (part_of s (needs_at s 0)) most_duties i l.part
  pub sum : total ≡ sum_to i (whole_of s (needs_at s 0))
  pub most : total ≤ (most_ticks + 1) * i

none : (f : ℕ → ℕ) (l : List ℕ) → l ≡ replicate most_duties 0 → Filled f most_duties 0 l
none f l e = rw e (filled_none f most_duties)

pub begun_none :
    (s : Sharing) (l : Lists) → l.periods ≡ replicate most_duties 0 → l.rate ≡ replicate most_duties 0 → l.rest ≡ replicate most_duties 0
    → l.whole ≡ replicate most_duties 0 → l.part ≡ replicate most_duties 0 → Begun s 0 0 l
begun_none s l a b c d e =
    record {
      periods_are = none _ _ a;
      rates = none _ _ b;
      rests = none _ _ c;
      wholes = none _ _ d;
      parts = none _ _ e;
      sum = sym (sum_none (whole_of s (needs_at s 0)));
      most = omega arith;
    }

-- the whole units and the part of the first need
first-whole :
    (s : Sharing) (i : ℕ) → i < duty_count s → 0 < (duty_of s i).period → whole_of s (needs_at s 0) i
    ≡ share_of s i / (duty_of s i).period + 1
first-whole s i l p = rw (need_first s i l) (add-div_right (share_of s i) p)

first_part : (s : Sharing) (i : ℕ) → i < duty_count s → part_of s (needs_at s 0) i ≡ share_of s i % (duty_of s i).period
first_part s i l = rw (need_first s i l) (add-mod_right (share_of s i) (duty_of s i).period)

module _ {s : Sharing} {i total : ℕ} {l : Lists} (k : Shareable s) where
  -- one duty more, by its share of r units and q D-ths
  pub begun_more :
      (d r q : ℕ) → Begun s i total l → i < duty_count s → d ≡ (duty_of s i).period
      → r ≡ share_of s i / (duty_of s i).period → q ≡ share_of s i % (duty_of s i).period → r ≤ most_ticks
      → Begun s (i + 1) (total + (r + 1)) (record {
        periods = set l.periods i d;
        rate = set l.rate i r;
        rest = set l.rest i q;
        whole = set l.whole i (r + 1);
        part = set l.part i q;
      })
  begun_more d r q b h' g e f h =
      let l' : i < most_duties = omega (arith, k.few) in
      let w : r + 1 ≡ whole_of s (needs_at s 0) i =
      ap (λ (k : ℕ). k + 1) e ∙ sym (first-whole s i h' (k.in_blocks.ranges i h').period_least) in
      record {
        periods_are = filled_more _ _ i d _ b.periods_are l' g;
        rates = filled_more _ _ i r _ b.rates l' e;
        rests = filled_more _ _ i q _ b.rests l' f;
        wholes = filled_more _ _ i (r + 1) _ b.wholes l' w;
        parts = filled_more _ _ i q _ b.parts l' (f ∙ sym (first_part s i h'));
        sum = omega (arith, b.sum, w, sum_more i (whole_of s (needs_at s 0)));
        most = omega (arith, b.most);
      }

  -- all of them
  pub begun_paced : Begun s i total l → i ≡ duty_count s → Paced s 0 total l
  begun_paced b e =
      record {
        shareable = k;
        rated = record {
          periods_are = λ j l. b.periods_are.done j (omega arith);
          rates = λ j l. b.rates.done j (omega arith);
          rests = λ j l. b.rests.done j (omega arith);
        };
        needed = record {
          wholes = λ j l. b.wholes.done j (omega arith);
          parts = λ j l. b.parts.done j (omega arith);
        };
        long = (b.wholes.long, b.parts.long);
        sum = b.sum ∙ ap (λ (n : ℕ). sum_to n (whole_of s (needs_at s 0))) e;
      }

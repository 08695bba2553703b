-- The search for a block's cut on its way. As long as fewer than F of the duties before i want a unit, the cut is not before i; and each
-- duty passed adds to the count what its whole units and its part say.
-- Assumes nothing.
use Prim.Native.Nat.{ℕ, ◌+◌, ◌≤◌, ◌<◌}
use mathlib.Core.Path.{◌≡◌, refl, sym, ap, ◌∙◌}
use mathlib.Core.Bool.{Bool, true, false}
use mathlib.Core.List.{List}
use native.Mathlib.Omega.{arith}
use lib.Dec.{leb}
use lib.ListN.{get_or}
use borrow.Author.Tests.{lt-leb, le-leb}
use Rattle.laws.specs.Choice.{one_if}
use Rattle.laws.specs.Search.{first}
use Rattle.laws.proofs.Search.{Seeking, seek_none, seek_more, seek_hit, seek_miss}
use Rattle.paper.specs.Sa2.{Sharing, duty_count, whole_of, part_of, wants, wanting_to, needs_at}
use Rattle.share_laws.specs.Cut.{cut_of, cut_at}
use Rattle.share_laws.proofs.CutFinds.{wanting_none, wanting_more}
use Rattle.share_turn.specs.Taking.{wants_by}
use Rattle.share_block.specs.Paced.{Needed, free_at}

one_most : (b : Bool) → one_if b ≤ 1
one_most true = omega arith
one_most false = omega arith

-- F or more of the duties before i want a unit
abbrev enough : Sharing → ℕ → ℕ → Bool
enough s b i = leb (free_at s b) (wanting_to s (needs_at s b) i)

-- the cut and who wants a unit, in the words of this search
cut_by : (s : Sharing) (b : ℕ) → cut_at s b ≡ first (enough s b) (duty_count s)
unfolding cut_of
cut_by s b = refl

pub wants_by_lem : (s : Sharing) (ws : List ℕ) (i : ℕ) → wants s ws i ≡ wants_by s.ticks (whole_of s ws i) (part_of s ws i)
unfolding wants
wants_by_lem s ws i = refl

-- i duties are passed
pub record Cutting (s : Sharing) (b i wanting : ℕ) : Type 0 where
  pub seeking : Seeking (enough s b) (duty_count s) i
  pub wanted : wanting ≡ wanting_to s (needs_at s b) i
  pub few : wanting ≤ i

pub cutting_none : (s : Sharing) (b : ℕ) → Cutting s b 0 0
cutting_none s b =
    record { seeking = seek_none (enough s b) (duty_count s); wanted = sym (wanting_none s (needs_at s b)); few = omega arith }

module _ {s : Sharing} {b i wanting : ℕ} where
  -- one duty more, by what stands in the lists
  pub cutting_more :
      {whole part : List ℕ} (left x : ℕ) → Cutting s b i wanting → Needed s b whole part → left ≡ free_at s b → i < duty_count s
      → wanting < left → x ≡ one_if (wants_by s.ticks (get_or whole i 0) (get_or part i 0)) → Cutting s b (i + 1) (wanting + x)
  cutting_more {whole} {part} left x g d f h m e =
      let one : x ≡ one_if (wants s (needs_at s b) i) =
      e ∙ rw (d.wholes i h, d.parts i h) (ap one_if (sym (wants_by_lem s (needs_at s b) i))) in
      record {
        seeking = seek_more g.seeking h (lt-leb (free_at s b) (wanting_to s (needs_at s b) i) (omega (arith, g.wanted, f)));
        wanted = omega (arith, g.wanted, one, wanting_more s (needs_at s b) i);
        few = omega (arith, g.few, one, one_most (wants s (needs_at s b) i));
      }

  -- the cut: so many want a unit, or all duties are passed
  pub cutting_hit : (left : ℕ) → Cutting s b i wanting → i < duty_count s → left ≡ free_at s b → left ≤ wanting → i ≡ cut_at s b
  cutting_hit left g h f m =
      let all : free_at s b ≤ wanting_to s (needs_at s b) i = omega (arith, g.wanted) in
      seek_hit g.seeking h (le-leb (free_at s b) (wanting_to s (needs_at s b) i) all) ∙ sym (cut_by s b)

  pub cutting_miss : Cutting s b i wanting → i ≡ duty_count s → i ≡ cut_at s b
  cutting_miss g h = seek_miss g.seeking (omega arith) ∙ sym (cut_by s b)

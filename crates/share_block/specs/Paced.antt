-- How duties go on block after block, and what stands in their lists on the way: their shares, and their needs before a block.
use Rattle.std.specs.Prelude.{ℕ, ◌/◌, ◌%◌, ◌<◌, ◌≡◌, Bool, List, length, get_or}
use Rattle.laws.specs.Search.{any}
use Rattle.laws.specs.Sum.{sum_to}
use Rattle.paper.specs.Limits.{most_duties}
use Rattle.paper.specs.Sa2.{Sharing, duty_count, duty_of, share_of, whole_of, part_of, free, needs_at}
use Rattle.share_laws.specs.Short.{lacks, short}
use Rattle.share_common.specs.Common.{Shareable}
use Rattle.share_block.specs.declared.Lists.{Lists}

-- whose blocks are shared out, and the block that is next
pub record Pace : Type 0 where
  pub sharing : Sharing
  pub block : ℕ

abbrev pub pace : Sharing → ℕ → Pace
pace s b = record { sharing = s; block = b }

-- each duty's period and its share: "T * C_i / D_i = N_i + F_i", F in D-ths
pub record Rated (s : Sharing) (periods rate rest : List ℕ) : Type 0 where
  pub periods_are : (i : ℕ) → i < duty_count s → get_or periods i 0 ≡ (duty_of s i).period
  pub rates : (i : ℕ) → i < duty_count s → get_or rate i 0 ≡ share_of s i / (duty_of s i).period
  pub rests : (i : ℕ) → i < duty_count s → get_or rest i 0 ≡ share_of s i % (duty_of s i).period

-- its need before block b, the whole units raised by 1
pub record Needed (s : Sharing) (b : ℕ) (whole part : List ℕ) : Type 0 where
  pub wholes : (i : ℕ) → i < duty_count s → get_or whole i 0 ≡ whole_of s (needs_at s b) i
  pub parts : (i : ℕ) → i < duty_count s → get_or part i 0 ≡ part_of s (needs_at s b) i

-- all of these, and the sum of the needs' whole units
pub record Paced (s : Sharing) (b total : ℕ) (l : Lists) : Type 0 where
  pub shareable : Shareable s
  pub rated : Rated s l.periods l.rate l.rest
  pub needed : Needed s b l.whole l.part
  pub long : (length l.whole ≡ most_duties) × (length l.part ≡ most_duties)
  pub sum : total ≡ sum_to (duty_count s) (whole_of s (needs_at s b))

-- of block b: its free units, whether some duty would get -1 units there, and whether it comes short
abbrev pub free_at : Sharing → ℕ → ℕ
free_at s b = free s (needs_at s b)

abbrev pub lack_at : Sharing → ℕ → Bool
lack_at s b = any (lacks s (needs_at s b)) (duty_count s)

abbrev pub short_at : Sharing → ℕ → Bool
short_at s b = short s (needs_at s b)

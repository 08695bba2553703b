-- The least common multiple of duties' periods: each period divides it, and it divides whatever they all divide.
-- Assumes nothing.
use Prim.Native.Nat.{ℕ, ◌<◌, ◌∣◌}
use mathlib.Core.Path.{◌≡◌}
use mathlib.Core.List.{List}
use lib.ListN.{length, get_or, length-map, get_or-map}
use Rattle.laws.specs.Divisor.{lcm_of}
use Rattle.laws.proofs.Multiple.{lcm_of-divided, lcm_of_least, lcm_of_positive}
use Rattle.paper.specs.declared.Duty.{Duty}
use Rattle.paper.specs.Duties.{duty, duty_at, periods_of}
use Rattle.paper.proofs.Passed.{Ranges}

module _ (ds : List Duty) where
  -- the periods, by index
  periods_length : length (periods_of ds) ≡ length ds
  periods_length = length-map ds (λ (x : Duty). x.period)

  period_is : (i : ℕ) → get_or (periods_of ds) i 0 ≡ (duty_at ds i).period
  period_is i = get_or-map (λ (x : Duty). x.period) ds i (duty 0 0)

  -- every period divides the common multiple, ..
  pub periods_divide : (i : ℕ) → i < length ds → (duty_at ds i).period ∣ lcm_of (periods_of ds)
  periods_divide i l = rw (period_is i) at (lcm_of-divided (periods_of ds) i (rw periods_length l))

  -- .. it divides whatever they all divide, ..
  pub multiple_least : (m : ℕ) → ((i : ℕ) → i < length ds → (duty_at ds i).period ∣ m) → lcm_of (periods_of ds) ∣ m
  multiple_least m h = lcm_of_least (periods_of ds) m (λ i l. rw (period_is i) (h i (rw periods_length at l)))

  -- .. and it is above 0 where the duties are in range
  pub multiple_some : Ranges ds → 0 < lcm_of (periods_of ds)
  multiple_some r = lcm_of_positive (periods_of ds) (λ i l. rw (period_is i) (r i (rw periods_length at l)).period_least)

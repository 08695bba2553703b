-- The builder after tests 1 to 5. What they refuse it refuses. Past them the code has two numbers: the greatest common divisor of the
-- periods, and the block length that is meant. The one divides the other exactly where it divides every period; there the builder builds
-- for that length, and elsewhere it refuses with 24.
-- Assumes nothing.
use Prim.Native.Nat.{ℕ, ◌%◌, ◌<◌}
use mathlib.Core.Path.{◌≡◌, refl, sym, ap, ◌∙◌}
use native.Mathlib.Nat.{dvd_of_mod-eq-zero, mod-eq-zero_of_dvd}
use native.Mathlib.Omega.{arith}
use lib.Dec.{eqb}
use borrow.Author.Tests.{eqb-false}
use Rattle.laws.specs.Choice.{pick}
use Rattle.laws.proofs.Cases.{by_cases}
use Rattle.laws.proofs.Decides.{Not}
use Rattle.paper.specs.declared.Refusal.{Refusal}
use Rattle.paper.specs.Limits.{most_ticks}
use Rattle.paper.specs.Words.{block_length_of, Table}
use Rattle.paper.specs.Outcome.{Outcome, refused, and_then, refused_as, number_of, place_of}
use Rattle.paper.specs.Bytes.{bytes_of}
use Rattle.paper.specs.Wanted.{Wanted, duty_set, taken}
use Rattle.paper.specs.Builder.{plan_at, fitted, build}
use Rattle.paper.specs.Statements.{CommonDivisor}
use Rattle.paper.proofs.Passed.{From}
use Rattle.table_laws.proofs.Accepted.{common_when}
use Rattle.plan_laws.proofs.TakenWhen.{Taken}
use Rattle.plan_laws.proofs.PlanWhen.{ticks_for, not_taken, not_common, plan_when, past_common}
use Rattle.duty_lists.proofs.AfterTests.{listed, some_taken, within_by, greatest_within}
use Rattle.builder.specs.BuildAt.{build_at}

-- what the tests refuse is not built
pub not_built : (wish : ℕ) (x : Wanted) (why : Refusal) (room : ℕ) → taken x ≡ refused_as why → build wish x room ≡ refused_as why
not_built wish x why room h = rw ((plan_when wish x _).1 (not_taken (number_of why) (place_of why) h refl))

-- past the tests, the two numbers
pub record Lengths (wish : ℕ) (x : Wanted) (g t : ℕ) : Type 0 where
  pub takes : Taken x
  pub greatest : g ≡ block_length_of (duty_set x)
  pub meant : t ≡ pick (eqb wish 0) g wish

module _ {wish : ℕ} {x : Wanted} {g t : ℕ} (k : Lengths wish x g t) where
  meant_is : t ≡ ticks_for wish x
  meant_is = k.meant ∙ ap (λ (n : ℕ). pick (eqb wish 0) n wish) k.greatest

  -- the length that is meant is not 0: a wish is not, nor is the greatest
  pub meant_some : 0 < t
  meant_some =
      by_cases (eqb wish 0)
      (λ h. rw (k.meant, h, k.greatest) (greatest_within (some_taken x k.takes) (listed x k.takes)).0)
      (λ h. rw (k.meant, h) (omega (arith, eqb-false wish 0 h)))

  -- it divides every period exactly where it leaves nothing of the greatest
  common_if : g % t ≡ 0 → CommonDivisor t (duty_set x)
  common_if h = (common_when t (duty_set x)).0 (rw (← k.greatest) (dvd_of_mod-eq-zero t h))

  if_common : CommonDivisor t (duty_set x) → g % t ≡ 0
  if_common d = rw k.greatest (mod-eq-zero_of_dvd t ((common_when t (duty_set x)).1 d))

  pub refusal_24 : (room : ℕ) → Not (g % t ≡ 0) → build wish x room ≡ refused 24 0
  refusal_24 room n = rw ((plan_when wish x _).1 (not_common refl k.takes (λ d. n (if_common (rw meant_is d)))))

  -- past 24 it is in range, and what is taken is built for it
  pub within_past : g % t ≡ 0 → From 1 most_ticks t
  within_past h = within_by (some_taken x k.takes) (listed x k.takes) t (common_if h)

  pub past_24 : (room : ℕ) → g % t ≡ 0 → build wish x room ≡ build_at t x.engines (duty_set x) room
  past_24 room h =
      ap (λ (o : Outcome Table). and_then o (λ p. fitted room (bytes_of p)))
      (past_common wish x k.takes (rw meant_is at (common_if h)) ∙ ap (λ (n : ℕ). plan_at n x.engines (duty_set x)) (sym meant_is))

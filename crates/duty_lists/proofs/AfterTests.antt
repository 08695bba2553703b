-- What tests 1 to 5 leave. Where the duties are taken, none of them applies; a block length that divides every period is then in range,
-- since it divides a period that is.
-- Assumes nothing.
use Prim.Native.Nat.{ℕ, ◌≤◌}
use mathlib.Core.Path.{◌≡◌}
use mathlib.Core.List.{List}
use native.Mathlib.Omega.{arith}
use lib.ListN.{length}
use Rattle.laws.specs.Divisor.{gcd_of}
use Rattle.paper.specs.declared.Duty.{Duty}
use Rattle.paper.specs.Limits.{most_ticks}
use Rattle.paper.specs.Words.{block_length_of}
use Rattle.paper.specs.Outcome.{answer}
use Rattle.paper.specs.Wanted.{Wanted, duties_of, duty_set, taken}
use Rattle.paper.specs.Statements.{CommonDivisor}
use Rattle.paper.proofs.Passed.{From}
use Rattle.table_laws.proofs.Accepted.{block_divides}
use Rattle.plan_laws.proofs.Sa1Table.{ticks_some, ticks_within}
use Rattle.plan_laws.proofs.Planned.{length_duties, block_length_is}
use Rattle.plan_laws.proofs.TakenWhen.{Taken, taken_told}
use Rattle.duty_lists.specs.Listed.{Listed}
use Rattle.duty_lists.specs.Sliceable.{Sliceable}

-- a length that divides every period is in range, as the duties are, ..
module _ {ds : List Duty} (some : 1 ≤ length ds) (l : Listed ds) where
  pub within_by : (t : ℕ) → CommonDivisor t ds → From 1 most_ticks t
  within_by t d = (ticks_some t ds some l.ranged d, ticks_within t ds some l.ranged d)

  -- .. and so is the greatest
  pub greatest_within : From 1 most_ticks (block_length_of ds)
  greatest_within = within_by (block_length_of ds) (block_divides ds)

module _ (x : Wanted) where
  -- where the duties are taken, none of 1 to 5 applies
  pub none_applies : taken x ≡ answer (duty_set x) → Taken x
  none_applies h = (taken_told x (duty_set x) h).0

  -- .. and so the duties are as a taken list is
  pub listed : Taken x → Listed (duty_set x)
  listed c =
      record { few = rw (length_duties x.services x.periods) c.counts.duties.1; ranged = c.ranges }

  -- and there are some
  pub some_taken : Taken x → 1 ≤ length (duty_set x)
  some_taken c = rw (length_duties x.services x.periods) c.counts.duties.0

  -- of the two lists: what is taken has the periods' greatest common divisor as its greatest block length, ..
  pub block_is : Taken x → block_length_of (duty_set x) ≡ gcd_of x.periods
  block_is c = block_length_is x.services x.periods c.counts.lengths

  -- .. with which their duties' slices can be worked out
  pub sliceable : Taken x → Sliceable (gcd_of x.periods) x.services x.periods
  sliceable c =
      let within : From 1 most_ticks (gcd_of x.periods) = rw (← block_is c) (greatest_within (some_taken c) (listed c)) in
      record {
        paired = record { same = c.counts.lengths; few = c.counts.duties.1 };
        ticks_least = within.0;
        ticks_most = within.1;
        ranged = λ i l. c.ranges i (rw (length_duties x.services x.periods) l);
      }

-- two lists whose slices can be worked out, in blocks of any length, can be put together as duties
pub duties_by : {t : ℕ} {ss ps : List ℕ} → Sliceable t ss ps → (length ss ≡ length ps) × Listed (duties_of ss ps)
duties_by {t} {ss} {ps} s =
    let many = length_duties ss ps in
    (s.paired.same, record { few = omega (arith, s.paired.few, many); ranged = λ i l. s.ranged i (omega (arith, l, many)) })

-- `duty_good`: a record that stands in the duty's place is good where its duty is in range.
use Prim.Native.Nat.{ℕ}
use mathlib.Core.Path.{◌≡◌, refl, sym, ap, ◌∙◌}
use mathlib.Core.Bool.{Bool, true}
use mathlib.Core.List.{List}
use Rattle.paper.specs.Limits.{duty_kind, duty_length}
use Rattle.paper.specs.Bytes.{stands, duty_in, duty_ranged, duty_good}
use Rattle.record_tests.proofs.Headed.duty_good.Goals as goal

told : (b : List ℕ) {l : List ℕ} {at place : ℕ} {r : Bool} → b ≡ l → at ≡ place → stands b at duty_kind duty_length ≡ true
    → r ≡ duty_ranged (duty_in b at) → r ≡ duty_good l place
told b e f s h = h ∙ rw (← e, ← f, s) refl

pub returns-then-record_stands : goal.returns-then-record_stands
returns-then-record_stands c =
    told _ c.self.view_is c.duty_place-at.ensures (sym c.record_stands.ensures.told ∙ c.if-record_stands.true)
    (c.duty_in_range.ensures ∙ ap duty_ranged c.read_duty.ensures)

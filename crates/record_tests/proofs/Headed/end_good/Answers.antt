-- `end_good`: a record that stands after the runs is good where it tells their number.
use Prim.Native.Nat.{ℕ, ◌+◌}
use mathlib.Core.Path.{◌≡◌, refl, sym, ◌∙◌}
use mathlib.Core.Bool.{true}
use mathlib.Core.List.{List}
use lib.Dec.{eqb}
use Rattle.laws.specs.Digits.{num_at}
use Rattle.paper.specs.Limits.{end_kind, end_length}
use Rattle.paper.specs.Bytes.{stands, end_good}
use Rattle.record_tests.proofs.Headed.end_good.Goals as goal

told : (b : List ℕ) {l : List ℕ} {at place n : ℕ} (k : ℕ) → b ≡ l → at ≡ place → stands b at end_kind end_length ≡ true
    → n ≡ num_at 2 b (at + 1) → eqb n k ≡ end_good l place k
told b k e f s h = rw (← e, ← f, s, h) refl

pub returns-then-record_stands : goal.returns-then-record_stands
returns-then-record_stands c =
    told _ _ c.self.view_is c.run_place-at.ensures (sym c.record_stands.ensures.told ∙ c.if-record_stands.true) c.read_field.ensures.told

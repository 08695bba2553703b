-- A verdict by bare numbers: none is done; of a refusal the number and the place, whether or not there is such a refusal.
use Rattle.std.specs.Prelude.{ℕ, ◌≤◌, ◌<◌, ◌≡◌, Option, None, Some}
use Rattle.paper.specs.Outcome.{Outcome, refused, answer}
use Rattle.paper.specs.Limits.{most_place}

-- the outcome that they tell, with what stands beside them
abbrev pub numbers_as : {A : Type 0} → Option (ℕ × ℕ) → A → Outcome A
numbers_as None a = answer a
numbers_as (Some x) a = refused x.0 x.1

-- they fit a word: the number a byte, the place within the bound
abbrev pub NumbersInWord : Option (ℕ × ℕ) → Type 0
NumbersInWord r = (x : ℕ × ℕ) → r ≡ Some x → (x.0 < 256) × (x.1 ≤ most_place)

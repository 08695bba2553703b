-- An answer whose refusal, if it is one, fits a word: its place is within the bound.
use Rattle.std.specs.Prelude.{◌≤◌, ◌≡◌, Result, Err}
use Rattle.paper.specs.declared.Refusal.{Refusal}
use Rattle.paper.specs.Outcome.{place_of}
use Rattle.paper.specs.Limits.{most_place}

abbrev pub InWord : {A : Type 0} → Result A Refusal → Type 0
InWord r = (x : Refusal) → r ≡ Err x → place_of x ≤ most_place

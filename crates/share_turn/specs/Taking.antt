-- Steps 2 and 4 of SA2 for one duty, by its amounts.
use Rattle.std.specs.Prelude.{ℕ, ◌+◌, ◌*◌, Bool, ◌&&◌, ltb}
use Rattle.laws.specs.Choice.{pick}

-- "f > 0, and n < T", n raised by 1
abbrev pub wants_by : (t whole part : ℕ) → Bool
wants_by t whole part = ltb 0 part && ltb whole (t + 1)

-- "the first F tasks from the list": those before the cut
abbrev pub chosen_by : (t whole part place cut : ℕ) → Bool
chosen_by t whole part place cut = wants_by t whole part && ltb place cut

-- step 4, in D-ths, raised by 1
abbrev pub next_by : (period rate rest part : ℕ) → Bool → ℕ
next_by period rate rest part c = rate * period + rest + part + pick c 0 period

-- A text that is made apart, and copied where it has room.
-- Assumes nothing.
use Prim.Native.Nat.{ℕ, ◌≤◌, ◌<◌}
use mathlib.Core.Path.{◌≡◌, sym, ap, ◌∙◌}
use mathlib.Core.List.{List}
use lib.ListN.{length, take, drop}
use lib.Seq.{take_at}
use borrow.Author.Tests.{lt-ltb, le-ltb}
use Rattle.laws.specs.Lists.{over}
use Rattle.paper.specs.Outcome.{refused, answer}
use Rattle.paper.specs.Builder.{fitted}

-- a buffer that is too short
pub fitted_short : (room n : ℕ) (w : List ℕ) → n ≡ length w → room < n → fitted room w ≡ refused 8 n
fitted_short room n w e h = rw (← e, lt-ltb room n h)

-- and one that is not
pub fitted-room : (room n : ℕ) (w : List ℕ) → n ≡ length w → n ≤ room → fitted room w ≡ answer w
fitted-room room n w e h = rw (← e, le-ltb room n h)

-- the front of a buffer with the text over it is the text
pub front_is : (n : ℕ) (w l xs : List ℕ) → n ≡ length w → xs ≡ over w l → take n xs ≡ w
unfolding over
front_is n w l xs e p = ap (take n) p ∙ take_at w (drop (length w) l) n (sym e)

-- `tell`: a refusal as a word; else 0, and the entries over the front.
use Prim.Native.Nat.{ℕ}
use mathlib.Core.Path.{◌≡◌, refl, sym, ap, ◌∙◌}
use mathlib.Core.List.{List, ◌++◌}
use lib.ListN.{length, drop}
use lib.Seq.{length-take-le}
use Rattle.laws.specs.Lists.{over}
use Rattle.laws.proofs.Writing.{over_is}
use Rattle.face_entries.proofs.tell.Goals as goal

front : (put a l : List ℕ) (n : ℕ) → put ≡ a → length put ≡ n → put ++ drop n l ≡ over a l
front put a l n e z = rw (← z) (ap (λ w. w ++ drop (length w) l) e ∙ sym (over_is a l))

pub returns-in-Ok : goal.returns-in-Ok
returns-in-Ok g c =
    let put = c.copy_from_slice in
    let whole = put.ensures.len ∙ length-take-le _ _ c.requires.room in
    rw c.in-Ok.is (record { said = refl; left = front _ _ _ _ (put.ensures.after ∙ c.entries.ensures) whole })

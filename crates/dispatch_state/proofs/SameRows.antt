-- Lists of rows are the same where their numbers are.
-- Assumes nothing.
use mathlib.Core.Path.{◌≡◌, refl, ap, ◌∙◌}
use mathlib.Core.Bool.{Bool, ◌&&◌}
use mathlib.Core.List.{List, [], ◌∷◌}
use lib.Dec.{eqb}
use lib.Pointwise.{pointwise}
use Rattle.laws.specs.Lists.{same_list}
use Rattle.paper.specs.declared.Row.{Row}
use Rattle.paper.specs.Words.{row_numbers}

pub rows_same : (same : Row → Row → Bool) → ((x y : Row) → same x y ≡ eqb x.0 y.0) → (a b : List Row)
    → pointwise same a b ≡ same_list (row_numbers a) (row_numbers b)
unfolding same_list
rows_same same h [] [] = refl
rows_same same h [] (y ∷ ys) = refl
rows_same same h (x ∷ xs) [] = refl
rows_same same h (x ∷ xs) (y ∷ ys) =
    ap (λ (t : Bool). same x y && t) (rows_same same h xs ys) ∙ ap (λ (t : Bool). t && same_list (row_numbers xs) (row_numbers ys)) (h x y)

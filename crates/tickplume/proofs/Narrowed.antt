-- Entries that were cut to 32 bits from above are a list of small numbers exactly when the entries themselves are: one that is cut is still
-- above each of them.
-- Assumes nothing.
use Prim.Native.Nat.{ℕ, zero, suc, ◌<◌, min}
use mathlib.Core.Path.{◌≡◌, refl}
use native.Mathlib.Omega.{arith}
use lib.Dec.{eqb}
use borrow.Author.Tests.{eqb-true, eq-eqb}
use Rattle.laws.specs.Lists.{tab, same_list}
use Rattle.laws.proofs.Cases.{both_ways}
use Rattle.paper.specs.declared.Row.{Row}
use Rattle.paper.specs.Limits.{no_row}
use Rattle.paper.specs.Words.{row, row_numbers}

-- one entry
cut_one : (x y : ℕ) → y < no_row → eqb (min x no_row) y ≡ eqb x y
cut_one x y h =
    both_ways (eqb (min x no_row) y) (eqb x y)
    (λ p. let z = eqb-true (min x no_row) y p in eq-eqb x y (omega (arith, z)))
    (λ p. let z = eqb-true x y p in eq-eqb (min x no_row) y (omega (arith, z)))

-- all of them
pub entries_cut : (n : ℕ) (f : ℕ → ℕ) (g : ℕ → Row) → ((e : ℕ) → (g e).0 < no_row)
    → same_list (row_numbers (tab n (λ e. row (min (f e) no_row)))) (row_numbers (tab n g))
    ≡ same_list (row_numbers (tab n (λ e. row (f e)))) (row_numbers (tab n g))
unfolding tab same_list
entries_cut zero f g small = refl
entries_cut (suc n) f g small =
    rw (cut_one (f 0) (g 0).0 (small 0), entries_cut n (λ k. f (suc k)) (λ k. g (suc k)) (λ k. small (suc k)))

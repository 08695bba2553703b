-- Step 4 without division. A need's part f and a share's part F are each less than a unit, so together they make one unit at the most: that
-- one is carried to the whole units, and what is left is the next need's part. A duty that has not taken a unit in advance keeps the 1 by
-- which its need is raised.
-- Assumes nothing.
use Prim.Native.Nat.{ℕ, ◌+◌, ◌-◌, ◌*◌, ◌/◌, ◌%◌, ◌≤◌, ◌<◌}
use mathlib.Core.Path.{◌≡◌, refl, sym, ◌∙◌}
use mathlib.Core.Bool.{Bool, true, false}
use native.Mathlib.Nat.{mod-eq_of_lt}
use native.Mathlib.Omega.{arith}
use lib.Arith.{digits_div, digits_mod}
use lib.Dec.{leb}
use borrow.Author.Tests.{le-leb, lt-leb}
use Rattle.std.specs.Int.{from_bool}
use Rattle.laws.specs.Choice.{pick, one_if}
use Rattle.laws.proofs.Cases.{lt_or_le}
use Rattle.share_turn.specs.Taking.{next_by}

-- a test counts as 1 or 0
pub counted : (b : Bool) → from_bool b ≡ one_if b
counted true = refl
counted false = refl

-- a number of D-ths, by its whole units q and a part r below D
whole_by : (d x q r : ℕ) → r < d → x ≡ q * d + r → x / d ≡ q
whole_by d x q r l e = rw e (digits_div q l)

part_by : (d x q r : ℕ) → r < d → x ≡ q * d + r → x % d ≡ r
part_by d x q r l e = rw e (digits_mod q l)

-- parts that make a unit leave the rest of it
pub past_unit : (d s : ℕ) → d ≤ s → s < d + d → s - d ≡ s % d
past_unit d s a b = sym (part_by d s 1 (s - d) (omega arith) (omega arith))

-- a unit of D-ths that is not taken off is the 1 that is not taken off
kept : (d n r : ℕ) (c : Bool) → n * d + r + pick c 0 d ≡ (n + 1 - one_if c) * d + r
kept d n r true = let e : n + 1 - one_if true ≡ n = omega arith in rw e (omega arith)
kept d n r false = let e : n + 1 - one_if false ≡ n + 1 = omega arith in rw e (omega arith)

module _ (d n g f : ℕ) (c : Bool) where
  -- the next need in whole units and a part, where the parts make no unit, and where they make one
  next_below : next_by d n g f c ≡ (n + 0 + 1 - one_if c) * d + (g + f)
  next_below = omega (arith, kept d (n + 0) (g + f) c)

  next_past : d ≤ g + f → next_by d n g f c ≡ (n + 1 + 1 - one_if c) * d + (g + f - d)
  next_past l = omega (arith, kept d (n + 1) (g + f - d) c)

  pub next_whole :
      (carry took : ℕ) → carry ≡ one_if (leb d (g + f)) → took ≡ one_if c → g + f < d + d → n + carry + 1 - took ≡ next_by d n g f c / d
  next_whole carry took p q h =
      rw (p, q)
      (sym
      (lt_or_le (g + f) d (λ l. whole_by d (next_by d n g f c) (n + 0 + 1 - one_if c) (g + f) l next_below ∙ rw (lt-leb d (g + f) l))
      (λ l. whole_by d (next_by d n g f c) (n + 1 + 1 - one_if c) (g + f - d) (omega arith) (next_past l) ∙ rw (le-leb d (g + f) l))))

  pub next_part : g + f < d + d → (g + f) % d ≡ next_by d n g f c % d
  next_part h =
      let next = next_by d n g f c in
      lt_or_le (g + f) d
      (λ l. mod-eq_of_lt l ∙ sym (part_by d next (n + 0 + 1 - one_if c) (g + f) l next_below))
      (λ l. sym (past_unit d (g + f) l h) ∙ sym (part_by d next (n + 1 + 1 - one_if c) (g + f - d) (omega arith) (next_past l)))

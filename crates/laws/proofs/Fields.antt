-- A field of one, two or four bytes, written out: what code reads byte by byte.
-- Assumes nothing.
use Prim.Native.Nat.{ℕ, ◌+◌, ◌*◌}
use mathlib.Core.Path.{◌≡◌}
use native.Mathlib.Nat.{add_assoc}
use native.Mathlib.Omega.{arith}
use mathlib.Core.List.{List}
use lib.ListN.{get_or}
use Rattle.laws.specs.Digits.{num_at}

pub num_at_one : (b : List ℕ) (at : ℕ) → num_at 1 b at ≡ get_or b at 0
unfolding num_at
num_at_one b at = omega arith

pub num_at_two : (b : List ℕ) (at : ℕ) → num_at 2 b at ≡ get_or b at 0 + 256 * get_or b (at + 1) 0
unfolding num_at
num_at_two b at = omega arith

pub num_at_four : (b : List ℕ) (at : ℕ) → num_at 4 b at ≡ get_or b at 0 + 256 *
    (get_or b (at + 1) 0 + 256 * (get_or b (at + 2) 0 + 256 * get_or b (at + 3) 0))
unfolding num_at
num_at_four b at = rw (add_assoc at 1 1, add_assoc at 2 1) (omega arith)

-- The least number that passes a test.
use Rattle.std.specs.Prelude.{ℕ, zero, suc, Bool, true, false, ltb}

-- the least k below n with `test k`, or n where there is none
unfoldable pub first : (ℕ → Bool) → ℕ → ℕ
first test zero = zero
first test (suc n) = elim (test zero) [ true ↦ zero | false ↦ suc (first (λ k. test (suc k)) n) ]

-- some k below n has `test k`
abbrev pub any : (ℕ → Bool) → ℕ → Bool
any test n = ltb (first test n) n

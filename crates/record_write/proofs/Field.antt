-- The low bytes of a number of four bytes are those of its field.
-- Assumes nothing.
use Rattle.std.proofs.Common.{ℕ, zero, suc, ◌/◌, ◌≤◌, ◌≡◌, refl, take, arith}
use Rattle.std.specs.Int.{w32, to_le_bytes}
use Rattle.laws.specs.Digits.{digits}

third : (v : ℕ) → v / 65536 ≡ v / 256 / 256
third v = omega arith

fourth : (v : ℕ) → v / 16777216 ≡ v / 256 / 256 / 256
fourth v = omega arith

pub low_bytes : (n v : ℕ) → n ≤ 4 → take n (to_le_bytes w32 v) ≡ digits n v
unfolding digits
low_bytes zero v h = refl
low_bytes (suc zero) v h = refl
low_bytes (suc (suc zero)) v h = refl
low_bytes (suc (suc (suc zero))) v h = rw (third v) refl
low_bytes (suc (suc (suc (suc zero)))) v h = rw (third v, fourth v) refl
low_bytes (suc (suc (suc (suc (suc n))))) v h = absurd (omega (arith, h))

-- Quotients of numbers that grow: from a number to the next a quotient grows by one at most; where a number of blocks divides both, a
-- quotient by ticks is one by blocks, the same for all ticks of a block; and what is added in whole adds its own quotient.
-- Assumes nothing.
use Prim.Native.Nat.{ℕ, zero, suc, ◌+◌, ◌*◌, ◌/◌, ◌≤◌, ◌<◌, ◌∣◌}
use mathlib.Core.Path.{◌≡◌, sym, ap, ◌∙◌}
use native.Mathlib.Nat.{div-zero, div-mul-le_self, lt-div-mul-add, le-div_iff_mul-le, div-lt_iff_lt-mul}
use native.Mathlib.Nat.{div-mul_cancel, div-div-eq-div-mul, add-mul-div_right, mul_comm}
use native.Mathlib.Omega.{arith}
use lib.Arith.{digits_div}

pub quotient_grows : (x m : ℕ) → (x / m ≤ suc x / m) × (suc x / m ≤ suc (x / m))
quotient_grows x zero = omega (arith, div-zero x, div-zero (suc x))
quotient_grows x (suc m) =
    let p : 0 < suc m = omega arith in
    let next : suc x / suc m < x / suc m + 2 = (div-lt_iff_lt-mul p).1 (omega (arith, lt-div-mul-add {a = x} p)) in
    ((le-div_iff_mul-le p).1 (omega (arith, div-mul-le_self x (suc m))), omega arith)

-- d of the t-tick blocks' multiples, after a of them: at unit u of block b
pub quotient_by_blocks : {t d : ℕ} (a b u : ℕ) → 0 < t → t ∣ a → t ∣ d → u < t → (a + (b * t + u)) / d ≡ (a / t + b) / (d / t)
quotient_by_blocks {t} {d} a b u h p q l =
    let z : a + (b * t + u) ≡ (a / t + b) * t + u = omega (arith, div-mul_cancel t p) in
    let y : d ≡ t * (d / t) = sym (mul_comm t (d / t) ∙ div-mul_cancel t q) in
    ap (λ n. (a + (b * t + u)) / n) y ∙ sym (div-div-eq-div-mul (a + (b * t + u)) t (d / t))
    ∙ ap (λ n. n / (d / t)) (ap (λ n. n / t) z ∙ digits_div (a / t + b) l)

-- the quotient of a sum one part of which is divided
pub quotient_plus : (a b d : ℕ) → d ∣ b → (a + b) / d ≡ a / d + b / d
quotient_plus a b zero h = omega (arith, div-zero (a + b), div-zero a, div-zero b)
quotient_plus a b (suc d) h =
    let z : a + b ≡ a + b / suc d * suc d = omega (arith, div-mul_cancel (suc d) h) in
    ap (λ n. n / suc d) z ∙ add-mul-div_right a (b / suc d) (omega arith)

-- A slice is whole exactly when D/T divides C, as document 01 has it. T divides D, so D is T·(D/T); and T·(D/T) divides T·C exactly when
-- D/T divides C. And what is whole for T is whole for every multiple of T, since D divides T·C and so each multiple of it: a shorter
-- block
-- never makes a slice whole that was not.
-- Assumes nothing.
use Prim.Native.Nat.{ℕ, ◌*◌, ◌/◌, ◌<◌, ◌∣◌}
use mathlib.Core.Path.{◌≡◌}
use mathlib.Core.Bool.{true}
use mathlib.Core.Logic.{◌↔◌}
use mathlib.Core.List.{List}
use native.Mathlib.Nat.{mul-div_cancel', mul-dvd-mul_left, mul-dvd-mul_right, dvd_of_mul-dvd-mul_left, pos_of_dvd_of_pos, dvd_trans}
use lib.ListN.{length}
use Rattle.paper.specs.declared.Duty.{Duty}
use Rattle.paper.specs.Duties.{duty_at}
use Rattle.paper.specs.Words.{whole}
use Rattle.paper.specs.Statements.{CommonDivisor}
use Rattle.table_laws.proofs.Rules.{Whole, whole_decides}

-- for every T that divides the period
pub whole_iff : (t : ℕ) (x : Duty) → 0 < t → t ∣ x.period → (whole t x ≡ true) ↔ (x.period / t ∣ x.service)
whole_iff t x h d = (there, back)
  where
    split : t * (x.period / t) ≡ x.period
    split = mul-div_cancel' t d

    there : whole t x ≡ true → x.period / t ∣ x.service
    there w = dvd_of_mul-dvd-mul_left _ h (rw split ((whole_decides t x).0 w))

    back : x.period / t ∣ x.service → whole t x ≡ true
    back q = (whole_decides t x).1 (rw split at (mul-dvd-mul_left _ t q))

-- "The slice N of a duty is T·C/D. It must be whole, that is, D/T divides C."
pub whole-duty : (t : ℕ) (ds : List Duty) → CommonDivisor t ds → (i : ℕ) → i < length ds → 0 < (duty_at ds i).period
    → (whole t (duty_at ds i) ≡ true) ↔ ((duty_at ds i).period / t ∣ (duty_at ds i).service)
whole-duty t ds c i h p = whole_iff t (duty_at ds i) (pos_of_dvd_of_pos (c i h) p) (c i h)

-- whole for T, and for every multiple of T
pub whole_longer : (t u : ℕ) (ds : List Duty) (i : ℕ) → t ∣ u → Whole t ds i → Whole u ds i
whole_longer t u ds i d w = dvd_trans _ w (mul-dvd-mul_right t d _)

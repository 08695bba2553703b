-- One of two things, by a test.
use Rattle.std.specs.Prelude.{Bool, true, false, ℕ}

-- the first where the test holds, else the second
abbrev pub pick {ℓ} : {A : Type ℓ} → Bool → A → A → A
pick true a b = a
pick false a b = b

-- 1 where the test holds, else 0: what a count adds up
abbrev pub one_if : Bool → ℕ
one_if b = pick b 1 0

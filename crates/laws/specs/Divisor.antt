-- Whether a number divides another. The greatest common divisor, by Euclid's steps: `proofs/Divisor.antt` shows that it divides both
-- numbers and that whatever divides both divides it. And the least common multiple: `proofs/Multiple.antt` shows that both numbers divide
-- it and that it divides whatever both divide.
use Rattle.std.specs.Prelude.{ℕ, zero, suc, ◌*◌, ◌/◌, ◌%◌, Bool, List, [], ◌∷◌, eqb}

-- a divides b: nothing is left
abbrev pub divides : ℕ → ℕ → Bool
divides a b = eqb (b % a) 0

-- Euclid: (a, b) becomes (b, a mod b) until b is 0. The first argument is how many steps there may be
unfoldable pub euclid : ℕ → ℕ → ℕ → ℕ
euclid zero a b = a
euclid (suc k) a zero = a
euclid (suc k) a (suc b) = euclid k (suc b) (a % suc b)

-- b falls with each step, so b + 1 steps are enough
unfoldable pub gcd : ℕ → ℕ → ℕ
gcd a b = euclid (suc b) a b

-- of all numbers of a list; 0 for none
unfoldable pub gcd_of : List ℕ → ℕ
gcd_of [] = zero
gcd_of (x ∷ xs) = gcd x (gcd_of xs)

-- the least number that both divide
unfoldable pub lcm : ℕ → ℕ → ℕ
lcm a b = a / gcd a b * b

-- that all numbers of a list divide; 1 for none
unfoldable pub lcm_of : List ℕ → ℕ
lcm_of [] = 1
lcm_of (x ∷ xs) = lcm x (lcm_of xs)

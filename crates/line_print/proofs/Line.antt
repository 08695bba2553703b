-- A line on its way: what is left of it after the word, and how long it gets.
-- Assumes nothing.
use Prim.Native.Nat.{ℕ, suc, ◌+◌, ◌*◌, ◌^◌, ◌≤◌, ◌<◌}
use mathlib.Core.Path.{◌≡◌, refl, sym, ap, ◌∙◌}
use mathlib.Core.List.{List, [], ◌∷◌, ◌++◌, append_assoc}
use native.Mathlib.Omega.{arith}
use lib.ListN.{length, drop, length-append}
use Rattle.laws.specs.Lists.{flat, over}
use Rattle.laws.proofs.Each.{Each, each_map}
use Rattle.laws.proofs.Writing.{Wrote, over_is}
use Rattle.laws.proofs.Listing.{flat_most}
use Rattle.paper.specs.Text.{print_line}
use Rattle.number_print.specs.Spaced.{spaced}
use Rattle.paper.specs.Outcome.{Puts}
use Rattle.number_print.proofs.Decimal.{decimal_most}

-- the word, and behind it the numbers and the line feed
line_is : (word numbers : List ℕ) → print_line word numbers ≡ word ++ (flat spaced numbers ++ (10 ∷ []))
unfolding print_line
line_is word numbers = append_assoc word (flat spaced numbers) (10 ∷ [])

-- where the word stands, the others are left
pub word_written :
    (word numbers l xs : List ℕ) → xs ≡ over word l → Wrote (print_line word numbers) l (flat spaced numbers ++ (10 ∷ [])) xs (length word)
word_written word numbers l xs e = record { w = word; len = refl; is = e; left = sym (line_is word numbers) }

pub line-length : (word numbers : List ℕ) → length (print_line word numbers) ≡ length word + length (flat spaced numbers) + 1
line-length word numbers =
    let rest = flat spaced numbers in
    omega (arith, ap length (line_is word numbers), length-append word (rest ++ (10 ∷ [])), length-append rest (10 ∷ []))

-- with room for the line there is room for its word and, behind that, for its n bytes of numbers and the line feed
pub line-room : (word numbers : List ℕ) (room n : ℕ) → length (print_line word numbers) ≤ room → n ≡ length (flat spaced numbers)
    → (length word + n < room) × (length word + n + 1 ≡ length (print_line word numbers))
line-room word numbers room n h e = omega (arith, line-length word numbers)

-- a line of numbers below 10^d
pub line_most : (d : ℕ) (word numbers : List ℕ) → Each (λ n. n < 10 ^ suc d) numbers
    → length (print_line word numbers) ≤ length word + (2 + d) * length numbers + 1
line_most d word numbers h =
    let each = each_map (λ n. n < 10 ^ suc d) (λ n. length (spaced n) ≤ 2 + d) (λ n l. omega (arith, decimal_most d n l)) numbers h in
    omega (arith, line-length word numbers, flat_most spaced (2 + d) numbers each)

-- what was put is no longer than the buffer
pub puts_fits : (w l xs : List ℕ) (n : ℕ) → Puts w l xs n → n ≤ length xs
puts_fits w l xs n p = omega (arith, p.0, ap length (p.1 ∙ over_is w l), length-append w (drop (length w) l))

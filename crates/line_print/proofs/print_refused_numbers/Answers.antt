-- `print_refused_numbers`: its two numbers have at most 20 digits each.
use Prim.Native.Nat.{ℕ, ◌^◌, ◌≤◌, ◌<◌}
use mathlib.Core.Path.{◌≡◌, subst}
use mathlib.Core.List.{List, [], ◌∷◌}
use native.Mathlib.Omega.{arith}
use lib.ListN.{length}
use borrow.Author.Rules.{rules}
use Rattle.paper.specs.Limits.{refused_line_room}
use Rattle.paper.specs.Text.{print_line, refused_word}
use Rattle.paper.specs.Outcome.{Puts}
use Rattle.line_print.proofs.Line.{line_most}
use Rattle.line_print.proofs.print_refused_numbers.Goals as goal

refused-fits : (n p room : ℕ) → n < 2 ^ 64 → p < 2 ^ 64 → refused_line_room ≤ room → length (print_line refused_word (n ∷ p ∷ [])) ≤ room
refused-fits n p room h l r = omega (arith, line_most 19 refused_word (n ∷ p ∷ []) (omega arith, (omega arith, tt)))

pub print_line-requires : goal.print_line-requires
print_line-requires c = refused-fits _ _ _ (search rules) (search rules) (search rules)

-- a line of two numbers, by what the first is
told : {n number : ℕ} (place : ℕ) (l xs : List ℕ) (k : ℕ) → n ≡ number → Puts (print_line refused_word (n ∷ place ∷ [])) l xs k
    → Puts (print_line refused_word (number ∷ place ∷ [])) l xs k
told place l xs k = subst (λ (z : ℕ). Puts (print_line refused_word (z ∷ place ∷ [])) l xs k)

pub returns : goal.returns
returns c = told c.args.place _ _ _ c.from-number.ensures c.print_line.ensures

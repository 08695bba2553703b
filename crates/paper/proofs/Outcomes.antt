-- What an equation between two outcomes tells: an answer is no refusal, each determines what it carries, and what one call after another,
-- or one test after another, came to tells what the first came to.
-- Assumes nothing.
use Prim.Native.Nat.{ℕ}
use mathlib.Core.Path.{◌≡◌, refl, sym, ap}
use mathlib.Core.Bool.{Bool, true, false}
use mathlib.Core.List.{List}
use native.Mathlib.Omega.{arith}
use lib.ListN.{length}
use Rattle.laws.specs.Choice.{pick}
use Rattle.laws.specs.Lists.{over}
use Rattle.paper.specs.declared.Refusal.{Refusal}
use Rattle.std.specs.Prelude.{Result, Ok, Err}
use Rattle.paper.specs.Outcome.{Outcome, refused, answer, and_then, refused_as, leaves, Writes}

-- an answer is no refusal
pub answered : {A P : Type 0} (a : A) (n p : ℕ) → answer a ≡ refused n p → P
answered a n p e = let z : ◌≡◌ {A = ℕ} 0 1 = cc in absurd (omega arith)

-- answers with the same answer
pub answer_one : {A : Type 0} (x y : A) → answer x ≡ answer y → x ≡ y
answer_one x y e = cc

-- refusals with the same number and place
pub refused_one : {A : Type 0} (n p k q : ℕ) → ◌≡◌ {A = Outcome A} (refused n p) (refused k q) → (n ≡ k) × (p ≡ q)
refused_one n p k q e = (cc, cc)

-- refusals with two numbers are not the same
pub refused_apart : {A P : Type 0} (n p k q : ℕ) → (n ≡ k → ⊥) → ◌≡◌ {A = Outcome A} (refused n p) (refused k q) → P
refused_apart n p k q d e = absurd (d (refused_one n p k q e).0)

-- an outcome handed on as it is
pub then_same : {A : Type 0} (o : Outcome A) → and_then o answer ≡ o
then_same (refused n p) = refl
then_same (answer a) = refl

-- a refusal stays one where answers only become other answers
pub then_refused : {A B : Type 0} (o : Outcome A) (f : A → B) (n p : ℕ) → and_then o (λ a. answer (f a)) ≡ refused n p → o ≡ refused n p
then_refused (refused k q) f n p e = cc
then_refused (answer a) f n p e = answered (f a) n p e

-- what is answered in the end was made of an answer
pub then_answer : {A B : Type 0} (o : Outcome A) (f : A → Outcome B) (b : B) → and_then o f ≡ answer b → (a : A) × (o ≡ answer a)
    × (f a ≡ answer b)
then_answer (refused n p) f b e = answered b n p (sym e)
then_answer (answer a) f b e = (a, refl, e)

-- an answer after a test for a fault: the test failed, and what follows gave the answer
pub past : {A : Type 0} (b : Bool) (n p : ℕ) (rest : Outcome A) (a : A) → pick b (refused n p) rest ≡ answer a → (b ≡ false)
    × (rest ≡ answer a)
past true n p rest a h = answered a n p (sym h)
past false n p rest a h = (refl, h)

-- "Refusals write nothing"
pub refused_leaves : (n p : ℕ) (buffer : List ℕ) → leaves (refused n p) buffer ≡ buffer
refused_leaves n p buffer = refl

-- ---- whatever writes

-- what is left by an outcome is left by an equal one
pub writes_same : {o o' : Outcome (List ℕ)} {r : Result ℕ Refusal} {before after : List ℕ} → o ≡ o' → Writes o' r before after
    → Writes o r before after
writes_same e w = rw e w

-- a refusal leaves the bytes
pub writes_refused : {o : Outcome (List ℕ)} (x : Refusal) (l : List ℕ) → o ≡ refused_as x → Writes o (Err x) l l
writes_refused x l e = rw e (record { said = refl; left = refl })

-- an answer is the length of what is laid over them
pub writes_length : {o : Outcome (List ℕ)} {n : ℕ} (w l after : List ℕ) → o ≡ answer w → length w ≡ n → after ≡ over w l
    → Writes o (Ok n) l after
writes_length w l after e f g = rw e (record { said = ap answer (sym f); left = g })

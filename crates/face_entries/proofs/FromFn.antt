-- An array made by a function of the index is the list of its values, where no call changes the function.
-- Assumes nothing.
use Prim.Native.Nat.{ℕ, zero, suc, ◌+◌, ◌≤◌, ◌<◌}
use mathlib.Core.Path.{◌≡◌, refl, ◌∙◌, subst}
use mathlib.Core.List.{List}
use native.Mathlib.Omega.{arith}
use lib.ListN.{get_or}
use denote.Param.Members.{Mut}
use Rattle.std.specs.Fn.{Called}
use Rattle.std.specs.Array.{IsFromFnResult, IsFromFnResultFrom}
use Rattle.laws.specs.Lists.{tab}
use Rattle.laws.proofs.Lists.{tab_of}
use Rattle.laws.proofs.Cases.{lt_or_le}

-- a call at an index leaves the function, and gives the value there
abbrev pub Gives : {F B : Type 0} → Mut F (ℕ × Unit {0}) B → F → (ℕ → B) → Type 0
Gives {F} {B} g f value = (i : ℕ) (y : B) (q : F) → Called g f (i, tt) y q → (q ≡ f) × (y ≡ value i)

entry : {F B : Type 0} (g : Mut F (ℕ × Unit {0}) B) (f : F) (value : ℕ → B) → Gives g f value → (d : B) (l : List B) (i m : ℕ) (q : F)
    → q ≡ f → IsFromFnResultFrom g q l i m → (k : ℕ) → i ≤ k → k < i + m → get_or l k d ≡ value k
entry g f value h d l i zero q e r k low high = absurd (omega arith)
entry {F} {B} g f value h d l i (suc m) q e (p, y, at, call, rest) k low high =
    let step = h i y p (subst (λ (x : F). Called g x (i, tt) y p) e call) in
    lt_or_le i k (λ less. entry g f value h d l (i + 1) m p step.0 rest k (omega arith) (omega arith))
    (λ more. let z : i ≡ k = omega arith in subst (λ (n : ℕ). get_or l n d ≡ value n) z (at.1 d ∙ step.1))

pub from_fn_tab : {F B : Type 0} (g : Mut F (ℕ × Unit {0}) B) (f : F) (value : ℕ → B) → Gives g f value → (d : B) (l : List B) (n : ℕ)
    → IsFromFnResult g f l n → l ≡ tab n value
from_fn_tab g f value h d l n r =
    tab_of d n value l r.long (λ k less. entry g f value h d l 0 n f refl r.each k (omega arith) (omega arith))

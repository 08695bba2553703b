-- What stands at a place of a list: `HasPart b at p` says that b has the entries p from `at` on. The parts of what stands
-- there stand at their own places, a number's bytes read as the number, and the k-th of equally long records stands k
-- lengths on. The other way round, parts cut out one after the other join to what was cut.
-- Assumes nothing.
use Prim.Native.Nat.{ℕ, zero, suc, ◌+◌, ◌*◌, ◌^◌, ◌≤◌, ◌<◌}
use mathlib.Core.Path.{◌≡◌, refl, sym, ◌∙◌}
use mathlib.Core.List.{List, [], ◌∷◌, ◌++◌, append_assoc, append-nil}
use native.Mathlib.Nat.{add-zero, mul-zero, not-suc-le-zero, le_of_suc-le-suc}
use native.Mathlib.Numerals.{add-one}
use native.Mathlib.Omega.{arith}
use lib.ListN.{length, get_or, take, drop, length-append}
use lib.Seq.{get_or-append-add, take-add, drop-drop, drop-cons}
use Rattle.laws.specs.Lists.{flat, tab}
use Rattle.laws.specs.Digits.{digits, num_at}
use Rattle.laws.proofs.Digits.{num_at_after, num_at-digits}

pub record HasPart (b : List ℕ) (at : ℕ) (p : List ℕ) : Type 0 where
  pub before : List ℕ
  pub after : List ℕ
  pub is : b ≡ before ++ (p ++ after)
  pub long : length before ≡ at

-- a list holds itself
pub holds_all : (b : List ℕ) → HasPart b 0 b
holds_all b = record { before = []; after = []; is = sym (append-nil b); long = refl }

-- the same place said otherwise
pub holds_at : {b p : List ℕ} (at at' : ℕ) → at ≡ at' → HasPart b at p → HasPart b at' p
holds_at {b} {p} at at' e h = rw (← e) h

-- the first part stands at the same place, the second after it
pub holds_left : {b : List ℕ} {at : ℕ} (p q : List ℕ) → HasPart b at (p ++ q) → HasPart b at p
holds_left p q h = record { before = h.before; after = q ++ h.after; is = h.is ∙ rw append_assoc; long = h.long }

pub holds_right : {b : List ℕ} {at : ℕ} (p q : List ℕ) → HasPart b at (p ++ q) → HasPart b (at + length p) q
holds_right p q h =
    record {
      before = h.before ++ p;
      after = h.after;
      is = h.is ∙ simp append_assoc;
      long = length-append h.before p ∙ omega (arith, h.long);
    }

-- it is within the list
pub holds_room : {b : List ℕ} {at : ℕ} (p : List ℕ) → HasPart b at p → at + length p ≤ length b
holds_room p h = rw h.is (simp length-append (omega (arith, h.long)))

-- the first entry is the list's at that place
pub holds_first : {b : List ℕ} {at : ℕ} (x : ℕ) (p : List ℕ) → HasPart b at (x ∷ p) → get_or b at 0 ≡ x
holds_first {b} {at} x p h = rw (h.is, ← h.long, ← add-zero (length h.before)) (get_or-append-add h.before (x ∷ p ++ h.after) 0 0)

-- the bytes of a number read as the number
pub holds_num : {b : List ℕ} {at : ℕ} (k v : ℕ) → HasPart b at (digits k v) → v < 256 ^ k → num_at k b at ≡ v
holds_num {b} {at} k v h l =
    rw (h.is, ← h.long, ← add-zero (length h.before))
    (num_at_after k h.before (digits k v ++ h.after) 0 ∙ num_at-digits k v h.after l)

-- and so do those that stand after p
pub holds_field : {b : List ℕ} {at : ℕ} (p : List ℕ) (k v place : ℕ) → HasPart b at (p ++ digits k v) → at + length p ≡ place → v < 256 ^ k
    → num_at k b place ≡ v
holds_field {b} {at} p k v place h e l = holds_num k v (holds_at (at + length p) place e (holds_right p (digits k v) h)) l

-- of records of s entries each, the k-th stands k records on
pub holds_flat :
    {A : Type 0} {b : List ℕ} (f : A → List ℕ) (s : ℕ) → ((x : A) → length (f x) ≡ s) → (d : A) (xs : List A) (at k : ℕ) → k < length xs
    → HasPart b at (flat f xs) → HasPart b (at + s * k) (f (get_or xs k d))
unfolding flat
holds_flat f s e d [] at k l h = absurd (not-suc-le-zero l)
holds_flat f s e d (x ∷ xs) at zero l h = holds_at at (at + s * 0) (omega arith) (holds_left (f x) (flat f xs) h)
holds_flat f s e d (x ∷ xs) at (suc k) l h =
    holds_at (at + length (f x) + s * k) (at + s * suc k) (omega (arith, e x))
    (holds_flat f s e d xs (at + length (f x)) k (le_of_suc-le-suc l) (holds_right (f x) (flat f xs) h))

-- the same part said otherwise
pub cut_same : (b : List ℕ) (n n' at at' : ℕ) → n ≡ n' → at ≡ at' → take n (drop at b) ≡ take n' (drop at' b)
cut_same b n n' at at' p q = rw (p, q)

-- two parts cut out one after the other are one part
pub cut_join : (b : List ℕ) (at m n : ℕ) → take m (drop at b) ++ take n (drop (at + m) b) ≡ take (m + n) (drop at b)
cut_join b at m n = rw (take-add, drop-drop)

-- an entry and the part after it are one part
pub cut_cons : (b : List ℕ) (at n : ℕ) → at < length b → get_or b at 0 ∷ take n (drop (at + 1) b) ≡ take (suc n) (drop at b)
cut_cons b at n h = rw (drop-cons b at 0 h, add-one)

-- records that are the parts of s entries from `at` on are one part
pub cut_flat :
    {A : Type 0} (b : List ℕ) (f : A → List ℕ) (s : ℕ) (n : ℕ) (g : ℕ → A) (at : ℕ)
    → ((k : ℕ) → k < n → f (g k) ≡ take s (drop (at + s * k) b)) → flat f (tab n g) ≡ take (s * n) (drop at b)
unfolding flat tab
cut_flat b f s zero g at e = rw mul-zero
cut_flat b f s (suc n) g at e =
    let rest = cut_flat b f s n (λ k. g (suc k)) (at + s)
    (λ k h. e (suc k) (omega arith) ∙ cut_same b s s (at + s * suc k) (at + s + s * k) refl (omega arith)) in
    let one = e 0 (omega arith) ∙ cut_same b s s (at + s * 0) at refl (omega arith) in
    rw (one, rest, cut_join b at s (s * n)) (cut_same b (s + s * n) (s * suc n) at at (omega arith) refl)

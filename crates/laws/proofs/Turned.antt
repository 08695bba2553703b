-- A list that a loop takes from one table to another, entry after entry: f below i, g from i on. Where it is the front of a longer list
-- that is written, g is what stood there, and in the end the table of f is laid over it. Beside it what such a loop counts: whether any
-- passed a test so far.
-- Assumes nothing.
use Prim.Native.Nat.{ℕ, ◌+◌, ◌-◌, ◌≤◌, ◌<◌}
use mathlib.Core.Path.{◌≡◌, refl, sym, ap, ◌∙◌}
use mathlib.Core.Bool.{Bool, false, ◌||◌}
use mathlib.Core.List.{List, ◌++◌}
use native.Mathlib.Omega.{arith}
use lib.ListN.{length, get_or, drop, length-append, length-drop, get_or-append}
use lib.Seq.{ext_get_or, drop_at, get_or-append-add, get_or-drop}
use borrow.Author.Tests.{ltb-true}
use borrow.Author.Count.{below_more}
use Rattle.laws.specs.Search.{first, any}
use Rattle.laws.specs.Lists.{tab, over}
use Rattle.laws.proofs.Cases.{by_cases, lt_or_le}
use Rattle.laws.proofs.Search.{first_holds, none_clear, clear_none, any_some}
use Rattle.laws.proofs.Lists.{length-tab, get_or-tab}
pub use Rattle.laws.proofs.Lists.{Turned, turned_more, turned_all}

-- the table of g is turned up to 0, and any list is the table of its entries
pub turned_none : (f g : ℕ → ℕ) (n : ℕ) (l : List ℕ) → l ≡ tab n g → Turned f g n 0 l
turned_none f g n l e =
    record { long = ap length e ∙ length-tab n g; done = λ k h. absurd (omega arith); rest = λ k h m. rw e (get_or-tab n g 0 k m) }

pub turned_any : (f : ℕ → ℕ) (n : ℕ) (l : List ℕ) → length l ≡ n → Turned f (λ k. get_or l k 0) n 0 l
turned_any f n l e = record { long = e; done = λ k h. absurd (omega arith); rest = λ k h m. refl }

-- what stands at i is still g's
pub turned_here : {f g : ℕ → ℕ} {n i : ℕ} {l : List ℕ} → Turned f g n i l → i < n → get_or l i 0 ≡ g i
turned_here {f} {g} {n} {i} {l} t h = t.rest i (omega arith) h

-- turned up to i, the first i entries of f are laid over what stood there
pub turned_over : {f : ℕ → ℕ} {m i : ℕ} {xs : List ℕ} (l : List ℕ) → Turned f (λ k. get_or l k 0) m i xs → m ≡ length l → i ≤ m → xs
    ≡ over (tab i f) l
unfolding over
turned_over {f} {m} {i} {xs} l t e h =
    let w = tab i f in
    let n : length w ≡ i = length-tab i f in
    let long : length xs ≡ length (w ++ drop (length w) l) = rw length-append (rw length-drop (omega (arith, t.long))) in
    ext_get_or 0 xs (w ++ drop (length w) l) long
    (λ k q. lt_or_le k i
    (λ p. t.done k p ∙ sym (get_or-append w (drop (length w) l) 0 k (omega arith) ∙ get_or-tab i f 0 k p))
    (λ p.
    let at : k ≡ length w + (k - length w) = omega arith in
    t.rest k p (omega (arith, t.long))
    ∙ sym (ap (λ (j : ℕ). get_or (w ++ drop (length w) l) j 0) at
    ∙ get_or-append-add w (drop (length w) l) (k - length w) 0 ∙ get_or-drop (length w) l (k - length w) 0
    ∙ ap (λ (j : ℕ). get_or l j 0) (sym at))))

-- ---- any of the numbers below n

pub any_none : (test : ℕ → Bool) → any test 0 ≡ false
any_none test = clear_none test 0 (λ k h. absurd (omega arith))

pub any-more : (test : ℕ → Bool) (n : ℕ) → any test (n + 1) ≡ any test n || test n
any-more test n =
    by_cases (any test n)
    (λ p.
    let l = ltb-true (first test n) n p in
    rw p (any_some test (n + 1) (first test n) (omega arith) (first_holds test n l)))
    (λ p. rw p
    (by_cases (test n) (λ q. any_some test (n + 1) n (omega arith) q ∙ sym q)
    (λ q. clear_none test (n + 1) (below_more (λ k. test k ≡ false) n (none_clear test n p) q) ∙ sym q)))

-- ---- written over once more

pub over_again : (a b l : List ℕ) → length a ≡ length b → over a (over b l) ≡ over a l
unfolding over
over_again a b l e = ap (λ (r : List ℕ). a ++ r) (drop_at b (drop (length b) l) (length a) (sym e) ∙ ap (λ (k : ℕ). drop k l) (sym e))

-- A writer on its way. Of the text W, all but `rest` is laid over the buffer l; what a callee was lent is the buffer from
-- the place a on, and what it wrote stands there when the loan comes back.
-- Assumes nothing.
use Prim.Native.Nat.{ℕ, suc, ◌+◌, ◌-◌, ◌<◌}
use mathlib.Core.Path.{◌≡◌, refl, sym, ap, ◌∙◌}
use mathlib.Core.List.{List, [], ◌∷◌, ◌++◌, append_assoc, append-nil}
use native.Mathlib.Nat.{add-zero}
use native.Mathlib.Omega.{arith}
use lib.ListN.{length, get_or, take, drop, set, length-append, length-drop, drop_of_length-le}
use lib.Seq.{take_all, take_at, drop_at, drop-drop, drop-cons, set_at}
use Rattle.laws.specs.Lists.{over}

pub over_nothing : (l : List ℕ) → over [] l ≡ l
unfolding over
over_nothing l = refl

-- what `over` is, for those who look into it
pub over_is : (a l : List ℕ) → over a l ≡ a ++ drop (length a) l
unfolding over
over_is a l = refl

-- a part, then the next one behind it: both, over the front
over-next : (w p l : List ℕ) → w ++ over p (drop (length w) l) ≡ over (w ++ p) l
unfolding over
over-next w p l =
    rw (length-append w p)
    (ap (λ (r : List ℕ). w ++ (p ++ r)) (drop-drop (length p) (length w) l) ∙ sym (append_assoc w p (drop (length w + length p) l)))

-- what is lent from the place a on, to the end
pub lent-rest : (a : ℕ) (xs : List ℕ) → take (length xs - a) (drop a xs) ≡ drop a xs
lent-rest a xs = take_all (length xs - a) (drop a xs) (rw length-drop (omega arith))

pub length-lent : (a : ℕ) (xs : List ℕ) → length (take (length xs - a) (drop a xs)) ≡ length xs - a
length-lent a xs = ap length (lent-rest a xs) ∙ length-drop a xs

-- of W, all but `rest` is laid over l; xs and a are the buffer and the place now
pub record Wrote (W l rest xs : List ℕ) (a : ℕ) : Type 0 where
  pub w : List ℕ
  pub len : length w ≡ a
  pub is : xs ≡ over w l
  pub left : w ++ rest ≡ W

-- nothing is written yet
pub unwritten : (W l : List ℕ) → Wrote W l W l 0
unwritten W l = record { w = []; len = refl; is = sym (over_nothing l); left = refl }

-- after a call that was lent the buffer from a on, and wrote p over its front
pub more : (W l rest xs p ys : List ℕ) (a : ℕ) → Wrote W l (p ++ rest) xs a → ys ≡ over p (take (length xs - a) (drop a xs))
    → Wrote W l rest (take a xs ++ (ys ++ drop (length xs - a) (drop a xs))) (a + length p)
unfolding over
more W l rest xs p ys a r e =
    record {
      w = r.w ++ p;
      len = length-append r.w p ∙ ap (λ (n : ℕ). n + length p) r.len;
      is = rw (front, whole_tail, no_more, append-nil) (ap (λ (t : List ℕ). r.w ++ t) written ∙ over-next r.w p l);
      left = append_assoc r.w p rest ∙ r.left;
    }
  where
    tail : drop a xs ≡ drop (length r.w) l
    tail = ap (drop a) r.is ∙ drop_at r.w (drop (length r.w) l) a r.len

    front : take a xs ≡ r.w
    front = ap (take a) r.is ∙ take_at r.w (drop (length r.w) l) a r.len

    no_more : drop (length xs - a) (drop a xs) ≡ []
    no_more = drop_of_length-le (drop a xs) {i = length xs - a} (rw length-drop (omega arith))

    whole_tail : ys ≡ over p (drop a xs)
    whole_tail = e ∙ ap (over p) (lent-rest a xs)

    written : over p (drop a xs) ≡ over p (drop (length r.w) l)
    written = ap (over p) tail

-- after a store at a
pub stored : (W l rest xs : List ℕ) (v a : ℕ) → Wrote W l (v ∷ rest) xs a → a < length l → Wrote W l rest (set xs a v) (a + 1)
unfolding over
stored W l rest xs v a r h =
    record {
      w = r.w ++ (v ∷ []);
      len = length-append r.w (v ∷ []) ∙ omega (arith, r.len);
      is = ap (λ (t : List ℕ). set t a v) shape ∙ set_at r.w (get_or l a 0) (drop (suc a) l) v a r.len ∙ sym goal;
      left = append_assoc r.w (v ∷ []) rest ∙ r.left;
    }
  where
    shape : xs ≡ r.w ++ (get_or l a 0 ∷ drop (suc a) l)
    shape = r.is ∙ ap (λ (n : ℕ). r.w ++ drop n l) r.len ∙ ap (λ (t : List ℕ). r.w ++ t) (drop-cons l a 0 h)

    goal : over (r.w ++ (v ∷ [])) l ≡ r.w ++ (v ∷ drop (suc a) l)
    goal =
        let n : length (r.w ++ (v ∷ [])) ≡ suc a = length-append r.w (v ∷ []) ∙ omega (arith, r.len) in
        append_assoc r.w (v ∷ []) (drop (length (r.w ++ (v ∷ []))) l) ∙ ap (λ (k : ℕ). r.w ++ (v ∷ drop k l)) n

-- all of it is written
pub done : (W l xs : List ℕ) (a : ℕ) → Wrote W l [] xs a → xs ≡ over W l
done W l xs a r = r.is ∙ ap (λ (t : List ℕ). over t l) (sym (append-nil r.w) ∙ r.left)

-- what is left and the place make up the whole length
pub room : {W l rest xs : List ℕ} {a : ℕ} → Wrote W l rest xs a → a + length rest ≡ length W
room {W} {l} {rest} {xs} {a} r = ap (λ (n : ℕ). n + length rest) (sym r.len) ∙ sym (length-append r.w rest) ∙ ap length r.left

-- the rest by another name
pub next : {W l rest rest' xs : List ℕ} {a : ℕ} → rest ≡ rest' → Wrote W l rest xs a → Wrote W l rest' xs a
next {W} {l} {rest} {rest'} {xs} {a} e r =
    record { w = r.w; len = r.len; is = r.is; left = ap (λ (t : List ℕ). r.w ++ t) (sym e) ∙ r.left }

-- the place by another name
pub moved : {W l rest xs : List ℕ} {a b : ℕ} → a ≡ b → Wrote W l rest xs a → Wrote W l rest xs b
moved {W} {l} {rest} {xs} {a} {b} e r = record { w = r.w; len = r.len ∙ e; is = r.is; left = r.left }

-- after a first call that was lent the whole buffer
pub begun : (l rest p ys : List ℕ) → ys ≡ over p l → Wrote (p ++ rest) l rest ys (length p)
begun l rest p ys e = record { w = p; len = refl; is = e; left = refl }

-- ---- a text that grows: all of W is written, and a part is written behind it

pub written : (W l xs : List ℕ) (n : ℕ) → xs ≡ over W l → n ≡ length W → Wrote W l [] xs n
written W l xs n e p = record { w = W; len = sym p; is = e; left = append-nil W }

-- after a call that was lent the buffer from a on, wrote p there and answered its length n
pub grown : {W l xs : List ℕ} {a : ℕ} (p ys : List ℕ) (n : ℕ) → Wrote W l [] xs a → n ≡ length p → ys
    ≡ over p (take (length xs - a) (drop a xs))
    → Wrote (W ++ p) l [] (take a xs ++ (ys ++ drop (length xs - a) (drop a xs))) (a + n)
grown {W} {l} {xs} {a} p ys n r e q =
    let all : r.w ≡ W = sym (append-nil r.w) ∙ r.left in
    let before : Wrote (W ++ p) l (p ++ []) xs a = record { w = r.w; len = r.len; is = r.is; left = rw (append-nil p, all) } in
    moved (ap (λ k. a + k) (sym e)) (more (W ++ p) l [] xs p ys a before q)

-- with nothing left, the place is the length and the text stands over the front
pub all_written : {W l xs : List ℕ} {a : ℕ} → Wrote W l [] xs a → (a ≡ length W) × (xs ≡ over W l)
all_written {W} {l} {xs} {a} r = (sym (add-zero a) ∙ room r, done W l xs a r)

-- the text by another name
pub renamed : {W W' l rest xs : List ℕ} {a : ℕ} → W ≡ W' → Wrote W l rest xs a → Wrote W' l rest xs a
renamed {W} {W'} {l} {rest} {xs} {a} e r = record { w = r.w; len = r.len; is = r.is; left = r.left ∙ e }

-- what was written over the front is read back from there
pub over-front : (w l : List ℕ) (n : ℕ) → length w ≡ n → take n (over w l) ≡ w
over-front w l n e = ap (take n) (over_is w l) ∙ take_at w (drop (length w) l) n e

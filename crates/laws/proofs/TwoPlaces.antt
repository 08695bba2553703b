-- A writer with two places. The text W goes over the front of the buffer l and the text U behind it, and they are written by turns: a part
-- of W where W's last one stopped, a part of U where U's last one stopped. What is written of W, a gap as long as what is left of W, what
-- is written of U and the buffer from there on stand one after the other all the time, so that a part of W takes its length off the gap's
-- front and nothing else moves. Once nothing is left the gap is empty, and W and U stand over the front.
-- Assumes nothing.
use Prim.Native.Nat.{ℕ, ◌+◌, ◌-◌, ◌≤◌}
use mathlib.Core.Path.{◌≡◌, refl, sym, ap, ◌∙◌}
use mathlib.Core.List.{List, [], ◌++◌, append_assoc, append-nil}
use native.Mathlib.Nat.{add-zero}
use native.Mathlib.Omega.{arith}
use lib.ListN.{length, take, drop, length-append, length-drop, take-append-drop, drop_of_length-le}
use lib.Seq.{length-take-le, take_at, drop_at, drop-drop, drop-append-le}
use Rattle.laws.specs.Lists.{over}
use Rattle.laws.proofs.Writing.{lent-rest, over_is}

-- W up to a and U up to b are written; restW and restV are left of them, and xs is the buffer now
pub record Both (W U l restW restV xs : List ℕ) (a b : ℕ) : Type 0 where
  pub w : List ℕ
  pub gap : List ℕ
  pub v : List ℕ
  pub front : length w ≡ a
  pub between : length gap ≡ length restW
  pub behind : length W + length v ≡ b
  pub is : xs ≡ w ++ (gap ++ (v ++ drop b l))
  pub left_w : w ++ restW ≡ W
  pub left_v : v ++ restV ≡ U

-- nothing is written yet
pub both_none : (W U l : List ℕ) → length W ≤ length l → Both W U l W U l 0 (length W)
both_none W U l h =
    record {
      w = [];
      gap = take (length W) l;
      v = [];
      front = refl;
      between = length-take-le (length W) l h;
      behind = add-zero (length W);
      is = sym (take-append-drop (length W) l);
      left_w = refl;
      left_v = refl;
    }

-- a part that was lent from behind u on, over whose front p was written
back_at :
    (u r p xs ys : List ℕ) (a : ℕ) → xs ≡ u ++ r → length u ≡ a → ys ≡ over p (take (length xs - a) (drop a xs))
    → take a xs ++ (ys ++ drop (length xs - a) (drop a xs)) ≡ u ++ over p r
back_at u r p xs ys a e h q =
    let front : take a xs ≡ u = ap (take a) e ∙ take_at u r a h in
    let tail : drop a xs ≡ r = ap (drop a) e ∙ drop_at u r a h in
    let no_more : drop (length xs - a) (drop a xs) ≡ [] =
    drop_of_length-le (drop a xs) {i = length xs - a} (rw length-drop (omega arith)) in
    let new : ys ≡ over p r = q ∙ ap (over p) (lent-rest a xs ∙ tail) in
    rw (front, new, no_more, append-nil)

-- the two places and what is left make up the whole lengths
pub both_room :
    {W U l restW restV xs : List ℕ} {a b : ℕ} → Both W U l restW restV xs a b
    → (a + length restW ≡ length W) × (b + length restV ≡ length W + length U)
both_room {W} {U} {l} {restW} {restV} {xs} {a} {b} r = (
  omega (arith, r.front, ap length r.left_w, length-append r.w restW),
  omega (arith, r.behind, ap length r.left_v, length-append r.v restV),
)

module _ {W U l restW restV xs : List ℕ} {a b : ℕ} (p ys : List ℕ) where
  -- after a call that was lent the buffer from a on, and wrote a part of W there
  pub both_front :
      Both W U l (p ++ restW) restV xs a b → ys ≡ over p (take (length xs - a) (drop a xs))
      → Both W U l restW restV (take a xs ++ (ys ++ drop (length xs - a) (drop a xs))) (a + length p) b
  both_front r q =
      let rest = r.v ++ drop b l in
      let long = r.between ∙ length-append p restW in
      let fits : length p ≤ length r.gap = omega (arith, long) in
      record {
        w = r.w ++ p;
        gap = drop (length p) r.gap;
        v = r.v;
        front = length-append r.w p ∙ omega (arith, r.front);
        between = length-drop (length p) r.gap ∙ omega (arith, long);
        behind = r.behind;
        is = back_at r.w (r.gap ++ rest) p xs ys a r.is r.front q
            ∙ ap (λ (t : List ℕ). r.w ++ t) (over_is p (r.gap ++ rest))
            ∙ ap (λ (t : List ℕ). r.w ++ (p ++ t)) (drop-append-le (length p) r.gap rest fits)
            ∙ sym (append_assoc r.w p (drop (length p) r.gap ++ rest));
        left_w = append_assoc r.w p restW ∙ r.left_w;
        left_v = r.left_v;
      }

  -- after a call that was lent the buffer from b on, and wrote a part of U there
  pub both_behind :
      Both W U l restW (p ++ restV) xs a b → ys ≡ over p (take (length xs - b) (drop b xs))
      → Both W U l restW restV (take b xs ++ (ys ++ drop (length xs - b) (drop b xs))) a (b + length p)
  both_behind r q =
      let u = r.w ++ (r.gap ++ r.v) in
      let long : length u ≡ b =
      length-append r.w (r.gap ++ r.v)
      ∙ omega (arith, length-append r.gap r.v, r.between, r.behind, ap length r.left_w, length-append r.w restW) in
      let shape : xs ≡ u ++ drop b l = r.is ∙ simp append_assoc in
      record {
        w = r.w;
        gap = r.gap;
        v = r.v ++ p;
        front = r.front;
        between = r.between;
        behind = omega (arith, r.behind, length-append r.v p);
        is = back_at u (drop b l) p xs ys b shape long q
            ∙ ap (λ (t : List ℕ). u ++ t) (over_is p (drop b l))
            ∙ ap (λ (t : List ℕ). u ++ (p ++ t)) (drop-drop (length p) b l) ∙ simp append_assoc;
        left_w = r.left_w;
        left_v = append_assoc r.v p restV ∙ r.left_v;
      }

-- what is left by another name
pub both_next :
    {W U l restW restW' restV restV' xs : List ℕ} {a b : ℕ} → restW ≡ restW' → restV ≡ restV'
    → Both W U l restW restV xs a b → Both W U l restW' restV' xs a b
both_next e f r = rw (← e, ← f) r

-- the places by another name
pub both_moved :
    {W U l restW restV xs : List ℕ} {a a' b b' : ℕ} → a ≡ a' → b ≡ b' → Both W U l restW restV xs a b → Both W U l restW restV xs a' b'
both_moved e f r = rw (← e, ← f) r

-- nothing is left
pub both_done : {W U l xs : List ℕ} {a b : ℕ} → Both W U l [] [] xs a b → xs ≡ over (W ++ U) l
both_done {W} {U} {l} {xs} {a} {b} r =
    let w : r.w ≡ W = sym (append-nil r.w) ∙ r.left_w in
    let v : r.v ≡ U = sym (append-nil r.v) ∙ r.left_v in
    let none : r.gap ≡ [] = drop_of_length-le r.gap {i = 0} (omega (arith, r.between)) in
    let end : b ≡ length (W ++ U) = sym r.behind ∙ ap (λ (t : List ℕ). length W + length t) v ∙ sym (length-append W U) in
    r.is ∙ rw (w, v, none, end) (sym (append_assoc W U (drop (length (W ++ U)) l)) ∙ sym (over_is (W ++ U) l))

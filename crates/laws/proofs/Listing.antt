-- A writer that goes through a list and writes what each entry gives, one after the other: after i entries, what the others give is left.
-- Assumes nothing.
use Prim.Native.Nat.{ℕ, ◌+◌, ◌-◌, ◌*◌, ◌≤◌, ◌<◌}
use mathlib.Core.Path.{◌≡◌, refl, sym, ap}
use mathlib.Core.List.{List, [], ◌∷◌, ◌++◌}
use native.Mathlib.Omega.{arith}
use lib.ListN.{length, get_or, take, drop, length-append}
use Rattle.laws.specs.Lists.{flat, over}
use Rattle.laws.proofs.Lists.{flat_left, flat_none}
use Rattle.laws.proofs.Each.{Each}
use Rattle.laws.proofs.Writing.{Wrote, unwritten, more, next, moved, room, all_written}

-- i of the entries are written over the front of l, up to the place `at`
pub record Listing {A : Type 0} (f : A → List ℕ) (items : List A) (l xs : List ℕ) (at i : ℕ) : Type 0 where
  pub within : i ≤ length items
  pub long : length xs ≡ length l
  pub wrote : Wrote (flat f items) l (flat f (drop i items)) xs at

pub listing_start : {A : Type 0} (f : A → List ℕ) (items : List A) (l : List ℕ) → Listing f items l l 0 0
listing_start f items l = record { within = omega arith; long = refl; wrote = unwritten (flat f items) l }

-- the place is not past the end of all
pub listing_at : {A : Type 0} {f : A → List ℕ} {items : List A} {l xs : List ℕ} {at i : ℕ} → Listing f items l xs at i
    → at ≤ length (flat f items)
listing_at s = omega (arith, room s.wrote)

-- what the next entry gives has room where all of it has
pub listing_room : {A : Type 0} {f : A → List ℕ} {items : List A} {l xs : List ℕ} {at i : ℕ} (d : A) (p : List ℕ) → p ≡ f (get_or items i d)
    → Listing f items l xs at i → i < length items → at + length p ≤ length (flat f items)
listing_room {A} {f} {items} {l} {xs} {at} {i} d p e s h =
    omega (
      arith,
      room s.wrote,
      ap length e,
      ap length (flat_left f d items i h),
      length-append (f (get_or items i d)) (flat f (drop (i + 1) items)),
    )

-- after a call that was lent the buffer from `at` on, wrote what the next entry gives there and answered its length n
pub listing_more : {A : Type 0} {f : A → List ℕ} {items : List A} {l xs : List ℕ} {at i : ℕ} (d : A) (p ys : List ℕ) (n : ℕ) → p
    ≡ f (get_or items i d)
    → Listing f items l xs at i → i < length items → n ≡ length p → ys ≡ over p (take (length xs - at) (drop at xs))
    → length (take at xs ++ (ys ++ drop (length xs - at) (drop at xs))) ≡ length l
    → Listing f items l (take at xs ++ (ys ++ drop (length xs - at) (drop at xs))) (at + n) (i + 1)
listing_more {A} {f} {items} {l} {xs} {at} {i} d p ys n q s h e w g =
    let here : flat f (drop i items) ≡ p ++ flat f (drop (i + 1) items) = rw q (flat_left f d items i h) in
    record {
      within = omega arith;
      long = g;
      wrote = moved (ap (λ k. at + k) (sym e)) (more (flat f items) l (flat f (drop (i + 1) items)) xs p ys at (next here s.wrote) w);
    }

-- after the last entry all is written
pub listing_end : {A : Type 0} {f : A → List ℕ} {items : List A} {l xs : List ℕ} {at i : ℕ} → Listing f items l xs at i → length items ≤ i
    → (at ≡ length (flat f items)) × (xs ≡ over (flat f items) l)
listing_end {A} {f} {items} {l} {xs} {at} {i} s h = all_written (next (flat_none f items i h) s.wrote)

-- entries that give at most s each give at most s times as many in all
pub flat_most : {A : Type 0} (f : A → List ℕ) (s : ℕ) (xs : List A) → Each (λ x. length (f x) ≤ s) xs → length (flat f xs) ≤ s * length xs
unfolding flat
flat_most f s [] h = omega arith
flat_most f s (x ∷ xs) h = omega (arith, length-append (f x) (flat f xs), h.0, flat_most f s xs h.1)

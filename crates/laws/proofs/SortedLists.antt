-- Lists that are kept sorted in one array.
--
-- The numbers 0, 1, 2, .. are taken one after the other. Each has an owner and a key, and is put into its owner's list, which stays sorted
-- by key. All lists stand in one array of pointers: spot i is that of number i, below the most numbers that there may be; behind them are
-- the fronts, that of owner d at most + d. A pointer is 0 at the end of a list, else the next number and 1.
--
-- No list is named as a value. What is said of a pointer is that it leads to the next number: of those of its owner with a key above that
-- of its spot, a front being below them all, the one with the least. So
-- * a search along the pointers comes to the last spot below a key (`spot_on`), since with every step the spot's key grows;
-- * that spot and its pointer are the two neighbours of the key in the list (`last_below`, `first_above`);
-- * a number put between the two leaves every pointer leading to the next (`sorted_more`): its own pointer is the one that its spot had
--   before, that spot's leads to it now, and for any other spot of the list a nearer number was there before.
-- Assumes nothing.
use Prim.Native.Nat.{ℕ, zero, suc, ◌+◌, ◌-◌, ◌≤◌, ◌<◌}
use mathlib.Core.Path.{◌≡◌, refl, sym, ap, ◌∙◌}
use mathlib.Core.List.{List}
use native.Mathlib.Nat.{le_antisymm}
use native.Mathlib.Omega.{arith}
use lib.Dec.{ltb}
use lib.ListN.{length, get_or, set, replicate, length-set, length-replicate}
use borrow.Author.Tests.{lt-ltb, le-ltb}
use Rattle.laws.specs.Choice.{pick}
use Rattle.laws.proofs.Cases.{lt_or_le, by_order}
use Rattle.laws.proofs.Lists.{set_has}

-- what is kept in lists: each number's owner and key, and how many numbers there may be
pub record Kept : Type 0 where
  pub owner : ℕ → ℕ
  pub key : ℕ → ℕ
  pub most : ℕ

-- the least key that is above a spot: a number's key and 1; 0 for a front
abbrev pub rank : Kept → ℕ → ℕ
rank w s = pick (ltb s w.most) (w.key s + 1) 0

rank_number : (w : Kept) (s : ℕ) → s < w.most → rank w s ≡ w.key s + 1
rank_number w s h = rw (lt-ltb s w.most h)

rank-front : (w : Kept) (s : ℕ) → w.most ≤ s → rank w s ≡ 0
rank-front w s h = rw (le-ltb s w.most h)

-- s is a spot of owner d's list, of the first k numbers
pub record Spot (w : Kept) (d k s : ℕ) : Type 0 where
  pub number : s < w.most → (s < k) × (w.owner s ≡ d)
  pub front : w.most ≤ s → s ≡ w.most + d

-- the pointer c leads to the next number of owner d, of the first k, from the key `least` on
pub record Next (w : Kept) (d k least c : ℕ) : Type 0 where
  pub ahead : 0 < c → (c ≤ k) × (w.owner (c - 1) ≡ d) × (least ≤ w.key (c - 1))
  pub nearest : (i : ℕ) → i < k → w.owner i ≡ d → least ≤ w.key i → (0 < c) × (w.key (c - 1) ≤ w.key i)

-- the first k numbers are in the lists of so many owners
pub record Sorted (w : Kept) (owners k : ℕ) (pointers : List ℕ) : Type 0 where
  pub room : w.most + owners ≤ length pointers
  pub next : (d s : ℕ) → d < owners → Spot w d k s → Next w d k (rank w s) (get_or pointers s 0)

-- room for so many pointers, and none leads anywhere
pub record Blank (spots : ℕ) (l : List ℕ) : Type 0 where
  pub room : spots ≤ length l
  pub zeros : (s : ℕ) → get_or l s 0 ≡ 0

pub blank_zeros : (spots n : ℕ) → spots ≤ n → Blank spots (replicate n 0)
blank_zeros spots n h = record { room = omega (arith, length-replicate {A = ℕ} n 0); zeros = zero_at n }
  where
    zero_at : (n s : ℕ) → get_or {A = ℕ} (replicate n 0) s 0 ≡ 0
    zero_at zero s = refl
    zero_at (suc n) zero = refl
    zero_at (suc n) (suc s) = zero_at n s

-- no number yet
pub sorted_none : (w : Kept) (owners : ℕ) (pointers : List ℕ) → Blank (w.most + owners) pointers → Sorted w owners 0 pointers
sorted_none w owners pointers blank =
    record {
      room = blank.room;
      next = λ d s h p.
          record { ahead = λ some. absurd (omega (arith, blank.zeros s)); nearest = λ i l. absurd (omega arith) };
    }

-- s is a spot in the list of number k's owner, below k's key
pub record Below (w : Kept) (k s : ℕ) : Type 0 where
  pub spot : Spot w (w.owner k) k s
  pub under : rank w s ≤ w.key k

-- the front is; so is an earlier number of that owner with a lower key
pub below_front : (w : Kept) (k s : ℕ) → s ≡ w.most + w.owner k → Below w k s
below_front w k s e =
    record {
      spot = record { number = λ h. absurd (omega arith); front = λ h. e };
      under = omega (arith, rank-front w s (omega arith));
    }

pub below_number : (w : Kept) (k i : ℕ) → i < k → k < w.most → w.owner i ≡ w.owner k → w.key i < w.key k → Below w k i
below_number w k i h few own less =
    record {
      spot = record { number = λ l. (h, own); front = λ l. absurd (omega arith) };
      under = omega (arith, rank_number w i (omega arith));
    }

-- no spot is one of two lists
one_list : {w : Kept} {d e k j s t : ℕ} → Spot w d k s → Spot w e j t → s ≡ t → d ≡ e
one_list {w} {d} {e} {k} {j} {s} {t} P Q q =
    lt_or_le s w.most (λ l. sym (P.number l).1 ∙ ap w.owner q ∙ (Q.number (omega arith)).1)
    (λ l. omega (arith, P.front l, Q.front (omega arith)))

-- a spot is one of the array's
pub spot_room : {w : Kept} {owners k d s : ℕ} {pointers : List ℕ} → Sorted w owners k pointers → d < owners → Spot w d k s
    → s < length pointers
spot_room {w} {s = s} S h p = lt_or_le s w.most (λ l. omega (arith, S.room)) (λ l. omega (arith, S.room, p.front l))

-- and its pointer leads to no later number
pub pointer_few : {w : Kept} {owners k d s : ℕ} {pointers : List ℕ} → Sorted w owners k pointers → d < owners → Spot w d k s
    → get_or pointers s 0 ≤ k
pointer_few {s = s} {pointers = pointers} S h p =
    lt_or_le 0 (get_or pointers s 0) (λ some. ((S.next _ s h p).ahead some).0) (λ none. omega arith)

-- such a spot is a front, or an earlier number of that owner with a lower key
pub below_key : {w : Kept} {k s : ℕ} → Below w k s → s < w.most → (s < k) × (w.owner s ≡ w.owner k) × (w.key s < w.key k)
below_key {w} {k} {s} B h =
    let n = B.spot.number h in (n.0, n.1, omega (arith, rank_number w s h, B.under))

-- one pointer further, as long as it leads to a lower key: that spot is below k's key too, and its own key is higher
pub spot_on : {w : Kept} {owners k s : ℕ} {pointers : List ℕ} → Sorted w owners k pointers → k < w.most → w.owner k < owners → Below w k s
    → 0 < get_or pointers s 0 → w.key (get_or pointers s 0 - 1) < w.key k
    → Below w k (get_or pointers s 0 - 1) × (rank w s < rank w (get_or pointers s 0 - 1))
spot_on {w} {owners} {k} {s} {pointers} S few own B some less =
    let c = get_or pointers s 0 in
    let on = (S.next (w.owner k) s own B.spot).ahead some in
    let here : c - 1 < w.most = omega (arith, on.0) in
    (below_number w k (c - 1) (omega (arith, on.0)) few on.1 less, omega (arith, on.2, rank_number w (c - 1) here))

-- spot p with its pointer is where number k belongs: p is below its key, and p's pointer leads to none that is
pub record Between (w : Kept) (owners k : ℕ) (pointers : List ℕ) (p : ℕ) : Type 0 where
  pub sorted : Sorted w owners k pointers
  pub few : k < w.most
  pub owned : w.owner k < owners
  pub below : Below w k p
  pub above : 0 < get_or pointers p 0 → w.key k ≤ w.key (get_or pointers p 0 - 1)

-- what p's pointer says of it
pub onward : {w : Kept} {owners k p : ℕ} {pointers : List ℕ} → Between w owners k pointers p
    → Next w (w.owner k) k (rank w p) (get_or pointers p 0)
onward {w} {k = k} {p = p} B = B.sorted.next (w.owner k) p B.owned B.below.spot

-- of the numbers of that owner those with lower keys come no later than p
pub last_below : {w : Kept} {owners k p : ℕ} {pointers : List ℕ} → Between w owners k pointers p → (i : ℕ) → i < k → w.owner i ≡ w.owner k
    → w.key i < w.key k → (p < w.most) × (w.key i ≤ w.key p)
last_below {w} {owners} {k} {p} {pointers} B i h own less =
    lt_or_le (w.key i) (rank w p)
    (λ l. lt_or_le p w.most (λ m. (m, omega (arith, rank_number w p m))) (λ m. absurd (omega (arith, rank-front w p m))))
    (λ l. let n = (onward B).nearest i h own l in absurd (omega (arith, n.0, n.1, B.above n.0)))

-- and the others no sooner than the one that its pointer leads to
pub first_above : {w : Kept} {owners k p : ℕ} {pointers : List ℕ} → Between w owners k pointers p → (i : ℕ) → i < k
    → w.owner i ≡ w.owner k → w.key k ≤ w.key i → (0 < get_or pointers p 0) × (w.key (get_or pointers p 0 - 1) ≤ w.key i)
first_above {w} {k = k} {p = p} B i h own more = (onward B).nearest i h own (omega (arith, B.below.under))

-- no two of the first k numbers of one owner have one key
abbrev pub Distinct : Kept → ℕ → Type 0
Distinct w k = (i j : ℕ) → i < k → j < k → w.owner i ≡ w.owner j → w.key i ≡ w.key j → i ≡ j

-- number k is put between p and what p's pointer leads to
pub sorted_more : {w : Kept} {owners k p : ℕ} {pointers : List ℕ} → Between w owners k pointers p → Distinct w (k + 1)
    → Sorted w owners (k + 1) (set (set pointers k (get_or pointers p 0)) p (k + 1))
sorted_more {w} {owners} {k} {p} {pointers} B D =
    record {
      room = simp length-set B.sorted.room;
      next = λ d s h P.
          set_has (Next w d (k + 1) (rank w s)) 0 (set pointers k c) p (k + 1) s (simp length-set at_p) (here d s P)
          (λ n. set_has (Next w d (k + 1) (rank w s)) 0 pointers k c s (omega (arith, B.sorted.room, B.few)) (own d s P)
          (λ m. other d s h P n m));
    }
  where
    c : ℕ
    c = get_or pointers p 0

    at_p : p < length pointers
    at_p = spot_room B.sorted B.owned B.below.spot

    -- what p's pointer led to has a higher key than k
    higher : 0 < c → w.key k < w.key (c - 1)
    higher some =
        let on = (onward B).ahead some in
        by_order (w.key k) (w.key (c - 1)) (λ l. l) (λ l. absurd (omega (arith, B.above some)))
        (λ e. absurd (omega (arith, on.0, D (c - 1) k (omega (arith, on.0)) (omega arith) on.1 (sym e))))

    -- p's own pointer, which leads to k now
    here : (d s : ℕ) → Spot w d (k + 1) s → s ≡ p → Next w d (k + 1) (rank w s) (k + 1)
    here d s P e =
        let one = one_list P B.below.spot e in
        let same = ap (rank w) e in
        let k_is : k + 1 - 1 ≡ k = omega arith in
        record {
          ahead = λ some. (omega arith, rw k_is (sym one), rw k_is (omega (arith, same, B.below.under)));
          nearest = λ i h o l. (
            omega arith,
            rw k_is (lt_or_le (w.key i) (w.key k)
                (λ m. by_order i k
                (λ q. let n = (onward B).nearest i q (o ∙ one) (omega (arith, same)) in absurd (omega (arith, n.0, n.1, B.above n.0)))
                (λ q. absurd (omega arith))
                (λ q. absurd (omega (arith, ap w.key q))))
                (λ m. m)),
          );
        }

    -- k's pointer, which was p's
    own : (d s : ℕ) → Spot w d (k + 1) s → s ≡ k → Next w d (k + 1) (rank w s) c
    own d s P e =
        let same : rank w s ≡ w.key k + 1 = ap (rank w) e ∙ rank_number w k B.few in
        let one : w.owner k ≡ d = ap w.owner (sym e) ∙ (P.number (omega (arith, B.few))).1 in
        record {
          ahead = λ some. let on = (onward B).ahead some in (omega (arith, on.0), on.1 ∙ one, omega (arith, same, higher some));
          nearest = λ i h o l.
              first_above B i (lt_or_le i k (λ q. q) (λ q. absurd (omega (arith, same, ap w.key (le_antisymm (omega arith) q)))))
              (o ∙ sym one) (omega (arith, same));
        }

    -- a spot of the list below k other than p comes before p, and p is a number
    sooner : (s : ℕ) → Spot w (w.owner k) k s → rank w s ≤ w.key k → (s ≡ p → ⊥) → (p < w.most) × (rank w s ≤ w.key p)
    sooner s P l n =
        lt_or_le s w.most
        (λ a.
        let r = rank_number w s a in
        let q = P.number a in
        let t = last_below B s q.0 q.1 (omega (arith, r)) in
        let v = B.below.spot.number t.0 in (
          t.0,
          by_order (w.key s) (w.key p) (λ g. omega (arith, r)) (λ g. absurd (omega (arith, t.1)))
              (λ g. absurd (n (D s p (omega (arith, q.0)) (omega (arith, v.0)) (q.1 ∙ sym v.1) g))),
        ))
        (λ a.
        let is_number = lt_or_le p w.most (λ b. b) (λ b. absurd (n (P.front a ∙ sym (B.below.spot.front b)))) in
        (is_number, omega (arith, rank-front w s a)))

    -- the pointer of any other spot, which was one of the list before
    before_k : (d s : ℕ) → Spot w d (k + 1) s → (s ≡ k → ⊥) → Spot w d k s
    before_k d s P m =
        record {
          number = λ l. let q = P.number l in (lt_or_le s k (λ g. g) (λ g. absurd (m (le_antisymm (omega (arith, q.0)) g))), q.1);
          front = P.front;
        }

    other : (d s : ℕ) → d < owners → Spot w d (k + 1) s → (s ≡ p → ⊥) → (s ≡ k → ⊥) → Next w d (k + 1) (rank w s) (get_or pointers s 0)
    other d s h P n m =
        let was = before_k d s P m in
        let next = B.sorted.next d s h was in
        record {
          ahead = λ some. let on = next.ahead some in (omega (arith, on.0), on.1, on.2);
          nearest = λ i l o g.
              by_order i k (λ q. next.nearest i q o g) (λ q. absurd (omega arith))
              (λ q.
              let one : w.owner k ≡ d = ap w.owner (sym q) ∙ o in
              let t = sooner s (rw one was) (omega (arith, ap w.key q)) n in
              let v = below_key B.below t.0 in
              let z = next.nearest p v.0 (v.1 ∙ one) t.1 in
              (z.0, omega (arith, z.1, ap w.key q, v.2)));
        }

-- ---- where a search may begin

-- each owner's entry is 0, or one of its first k numbers and 1
pub record Recent (w : Kept) (owners k : ℕ) (last : List ℕ) : Type 0 where
  pub room : owners ≤ length last
  pub earlier : (d : ℕ) → d < owners → 0 < get_or last d 0 → (get_or last d 0 ≤ k) × (w.owner (get_or last d 0 - 1) ≡ d)

pub recent_none : (w : Kept) (owners : ℕ) (last : List ℕ) → Blank owners last → Recent w owners 0 last
recent_none w owners last blank = record { room = blank.room; earlier = λ d h some. absurd (omega (arith, blank.zeros d)) }

pub recent_few : {w : Kept} {owners k d : ℕ} {last : List ℕ} → Recent w owners k last → d < owners → get_or last d 0 ≤ k
recent_few {d = d} {last = last} R h = lt_or_le 0 (get_or last d 0) (λ some. (R.earlier d h some).0) (λ none. omega arith)

pub recent_more : {w : Kept} {owners k : ℕ} {last : List ℕ} → Recent w owners k last → w.owner k < owners
    → Recent w owners (k + 1) (set last (w.owner k) (k + 1))
recent_more {w} {owners} {k} {last} R own =
    record {
      room = simp length-set R.room;
      earlier = λ d h.
          set_has (λ l. 0 < l → (l ≤ k + 1) × (w.owner (l - 1) ≡ d)) 0 last (w.owner k) (k + 1) d (omega (arith, R.room))
          (λ e some. let k_is : k + 1 - 1 ≡ k = omega arith in (omega arith, rw k_is (sym e)))
          (λ n some. let was = R.earlier d h some in (omega (arith, was.0), was.1));
    }

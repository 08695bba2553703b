-- Lists by index: what stands where in `tab`, `flat` and `map`, and when two lists are the same.
-- Assumes nothing.
use Prim.Native.Nat.{ℕ, zero, suc, ◌+◌, ◌*◌, ◌≤◌, ◌<◌}
use mathlib.Core.Path.{◌≡◌, refl, sym, ap, ◌∙◌}
use mathlib.Core.Bool.{true, false}
use mathlib.Core.List.{List, [], ◌∷◌, ◌++◌, map, append_assoc}
use native.Mathlib.Nat.{le_of_suc-le-suc, not-suc-le-zero}
use native.Mathlib.Numerals.{add-one}
use native.Mathlib.Omega.{arith}
use lib.Dec.{eqb}
use lib.ListN.{length, get_or, take, drop, set, replicate, length-append, length-set, drop_of_length-le, length-replicate, get_or-replicate}
use lib.Seq.{length-take-le, drop-cons, ext_get_or, get_or-take, get_or-set_same, get_or-set_other}
use borrow.Author.Tests.{eqb-true, eqb-false, eq-eqb, ne_eqb}
use Rattle.laws.specs.Choice.{pick}
use Rattle.laws.specs.Lists.{tab, flat, sum_of, same_list}
use Rattle.laws.proofs.Cases.{by_cases, lt_or_le, not_both, refuted, and_left, and_right, and_both}

-- ---- tab

pub length-tab : {A : Type 0} (n : ℕ) (f : ℕ → A) → length (tab n f) ≡ n
unfolding tab
length-tab zero f = refl
length-tab (suc n) f = ap suc (length-tab n (λ k. f (suc k)))

pub get_or-tab : {A : Type 0} (n : ℕ) (f : ℕ → A) (d : A) (k : ℕ) → k < n → get_or (tab n f) k d ≡ f k
unfolding tab
get_or-tab zero f d k h = absurd (not-suc-le-zero h)
get_or-tab (suc n) f d zero h = refl
get_or-tab (suc n) f d (suc k) h = get_or-tab n (λ j. f (suc j)) d k (le_of_suc-le-suc h)

pub tab_ext : {A : Type 0} (n : ℕ) (f g : ℕ → A) → ((k : ℕ) → k < n → f k ≡ g k) → tab n f ≡ tab n g
unfolding tab
tab_ext zero f g e = refl
tab_ext {A} (suc n) f g e =
    ap (λ (x : A). x ∷ tab n (λ k. f (suc k))) (e 0 (omega arith))
    ∙ ap (λ (l : List A). g 0 ∷ l) (tab_ext n (λ k. f (suc k)) (λ k. g (suc k)) (λ k h. e (suc k) (omega arith)))

pub map-tab : {A B : Type 0} (g : A → B) (n : ℕ) (f : ℕ → A) → map g (tab n f) ≡ tab n (λ k. g (f k))
unfolding tab
map-tab g zero f = refl
map-tab {A} {B} g (suc n) f = ap (λ (l : List B). g (f 0) ∷ l) (map-tab g n (λ k. f (suc k)))

-- a list is the table of its entries
pub tab-get_or : {A : Type 0} (l : List A) (d : A) → tab (length l) (λ k. get_or l k d) ≡ l
unfolding tab
tab-get_or [] d = refl
tab-get_or {A} (x ∷ xs) d = ap (λ (l : List A). x ∷ l) (tab-get_or xs d)

-- and any list with a table's length and entries is the table
pub tab_of : {A : Type 0} (d : A) (n : ℕ) (f : ℕ → A) (l : List A) → length l ≡ n → ((k : ℕ) → k < n → get_or l k d ≡ f k) → l ≡ tab n f
tab_of d n f l e h =
    ext_get_or d l (tab n f) (e ∙ sym (length-tab n f)) (λ k m. let m' : k < n = omega arith in h k m' ∙ sym (get_or-tab n f d k m'))

pub tab_is : (n : ℕ) (f : ℕ → ℕ) (l : List ℕ) → length l ≡ n → ((k : ℕ) → k < n → get_or l k 0 ≡ f k) → l ≡ tab n f
tab_is = tab_of 0

-- ---- map, flat and sums, by what is left of the list

pub drop-map : {A B : Type 0} (g : A → B) (k : ℕ) (l : List A) → drop k (map g l) ≡ map g (drop k l)
drop-map g zero l = refl
drop-map g (suc k) [] = refl
drop-map g (suc k) (x ∷ xs) = drop-map g k xs

-- a store before or after the map
pub map-set : {A B : Type 0} (g : A → B) (l : List A) (i : ℕ) (v : A) → map g (set l i v) ≡ set (map g l) i (g v)
map-set g [] i v = refl
map-set g (x ∷ xs) zero v = refl
map-set {A} {B} g (x ∷ xs) (suc i) v = ap (λ (l : List B). g x ∷ l) (map-set g xs i v)

-- a list whose entries are told by what a map makes of them, where there is a way back
pub map_back : {A B : Type 0} (g : A → B) (back : B → A) → ((x : A) → back (g x) ≡ x) → (l : List A) → map back (map g l) ≡ l
map_back g back h [] = refl
map_back {A} g back h (x ∷ xs) =
    ap (λ (y : A). y ∷ map back (map g xs)) (h x) ∙ ap (λ (l : List A). x ∷ l) (map_back g back h xs)

pub flat_append : {A B : Type 0} (f : A → List B) (xs ys : List A) → flat f (xs ++ ys) ≡ flat f xs ++ flat f ys
unfolding flat
flat_append f [] ys = refl
flat_append {A} {B} f (x ∷ xs) ys = ap (λ (l : List B). f x ++ l) (flat_append f xs ys) ∙ sym (append_assoc (f x) (flat f xs) (flat f ys))

-- where each entry gives s entries, all of them give s times as many
pub length-flat : {A B : Type 0} (f : A → List B) (s : ℕ) → ((x : A) → length (f x) ≡ s) → (xs : List A) → length (flat f xs)
    ≡ s * length xs
unfolding flat
length-flat f s e [] = omega arith
length-flat f s e (x ∷ xs) = length-append (f x) (flat f xs) ∙ omega (arith, e x, length-flat f s e xs)

pub flat_step : {A B : Type 0} (f : A → List B) (x : A) (xs : List A) → flat f (x ∷ xs) ≡ f x ++ flat f xs
unfolding flat
flat_step f x xs = refl

pub flat_end : {A B : Type 0} (f : A → List B) → flat f [] ≡ []
unfolding flat
flat_end f = refl

pub sum_of_step : (x : ℕ) (xs : List ℕ) → sum_of (x ∷ xs) ≡ x + sum_of xs
unfolding sum_of
sum_of_step x xs = refl

-- past the last entry nothing is left to add
pub sum_of-done : (l : List ℕ) (k : ℕ) → length l ≤ k → sum_of (drop k l) ≡ 0
unfolding sum_of
sum_of-done l k h = rw (drop_of_length-le l h)

-- ---- the same list

pub same_list_eq : (xs ys : List ℕ) → same_list xs ys ≡ true → xs ≡ ys
unfolding same_list
same_list_eq [] [] h = refl
same_list_eq [] (y ∷ ys) h = not_both h refl
same_list_eq (x ∷ xs) [] h = not_both h refl
same_list_eq (x ∷ xs) (y ∷ ys) h =
    let e = eqb-true x y (and_left (eqb x y) (same_list xs ys) h) in
    let r = same_list_eq xs ys (and_right (eqb x y) (same_list xs ys) h) in
    cc

pub same_list_refl : (xs : List ℕ) → same_list xs xs ≡ true
unfolding same_list
same_list_refl [] = refl
same_list_refl (x ∷ xs) = and_both (eqb x x) (same_list xs xs) (eq-eqb x x refl) (same_list_refl xs)

pub same_list_of_eq : (xs ys : List ℕ) → xs ≡ ys → same_list xs ys ≡ true
same_list_of_eq xs ys e = rw e (same_list_refl ys)

-- lists that are not the same fail the test, as those do that differ at an index
pub same_list_not : (xs ys : List ℕ) → (xs ≡ ys → ⊥) → same_list xs ys ≡ false
same_list_not xs ys n = refuted (same_list xs ys) (λ p. n (same_list_eq xs ys p))

pub same_list_differ : (xs ys : List ℕ) (k : ℕ) → (get_or xs k 0 ≡ get_or ys k 0 → ⊥) → same_list xs ys ≡ false
same_list_differ xs ys k h = same_list_not xs ys (λ e. h (ap (λ (l : List ℕ). get_or l k 0) e))

-- what holds of an entry after a store: of what was stored, or of what stood there
pub set_has : {A : Type 0} (P : A → Type 0) (d : A) (l : List A) (i : ℕ) (v : A) (k : ℕ) → i < length l → (k ≡ i → P v)
    → ((k ≡ i → ⊥) → P (get_or l k d)) → P (get_or (set l i v) k d)
set_has P d l i v k h same other =
    by_cases (eqb k i) (λ q. let e = eqb-true k i q in rw (e, get_or-set_same l i v d h) (same e))
    (λ q. let n = eqb-false k i q in rw (get_or-set_other l i k v d n) (other n))

get_or_set : {A : Type 0} (d : A) (l : List A) (i : ℕ) (v : A) (k : ℕ) (x : A) → i < length l → (k ≡ i → v ≡ x)
    → ((k ≡ i → ⊥) → get_or l k d ≡ x) → get_or (set l i v) k d ≡ x
get_or_set d l i v k x h same other = set_has (λ y. y ≡ x) d l i v k h same other

-- ---- an array that a loop takes from one table to another, entry after entry: f below i, g from there on

pub record Turned (f g : ℕ → ℕ) (n i : ℕ) (l : List ℕ) : Type 0 where
  pub long : length l ≡ n
  pub done : (k : ℕ) → k < i → get_or l k 0 ≡ f k
  pub rest : (k : ℕ) → i ≤ k → k < n → get_or l k 0 ≡ g k

-- one entry more
pub turned_more : {f g : ℕ → ℕ} {n i : ℕ} {l : List ℕ} (v : ℕ) → Turned f g n i l → i < n → v ≡ f i → Turned f g n (i + 1) (set l i v)
turned_more {f} {g} {n} {i} {l} v t h e =
    record {
      long = simp length-set t.long;
      done = λ k p. get_or_set 0 l i v k (f k) (omega (arith, t.long)) (λ q. rw q e) (λ q. t.done k (omega arith));
      rest = λ k p q. get_or-set_other l i k v 0 (omega arith) ∙ t.rest k (omega arith) q;
    }

-- turned to the end, it is the table of f
pub turned_all : {f g : ℕ → ℕ} {n i : ℕ} {l : List ℕ} → Turned f g n i l → n ≤ i → l ≡ tab n f
turned_all {f} {g} {n} {i} {l} t h = tab_is n f l t.long (λ k m. t.done k (omega arith))

-- ---- an array that is filled from its front: f below i, 0 from there on

abbrev pub Filled : (ℕ → ℕ) → (n i : ℕ) → List ℕ → Type 0
Filled f n i l = Turned f (λ k. 0) n i l

-- an array of zeros is filled up to 0
pub filled_none : (f : ℕ → ℕ) (n : ℕ) → Filled f n 0 (replicate n 0)
filled_none f n = record {
  long = length-replicate {A = ℕ} n 0;
  done = λ k h. absurd (omega arith);
  rest =
      λ k h l. get_or-replicate n k 0 0 l;
}

pub filled_more : (f : ℕ → ℕ) (n i v : ℕ) (l : List ℕ) → Filled f n i l → i < n → v ≡ f i → Filled f n (i + 1) (set l i v)
filled_more f n i v l F h e = turned_more v F h e

-- filled to the end, it is the table
pub filled_all : (f : ℕ → ℕ) (n : ℕ) (l : List ℕ) → Filled f n n l → l ≡ tab n f
filled_all f n l F = turned_all F (omega arith)

-- filled up to m, it is the table that goes on with 0
pub filled_part : (f g : ℕ → ℕ) (n m : ℕ) (l : List ℕ) → Filled f n m l → ((k : ℕ) → k < m → f k ≡ g k) → ((k : ℕ) → m ≤ k → g k ≡ 0) → l
    ≡ tab n g
filled_part f g n m l F e z =
    tab_is n g l F.long (λ k h. lt_or_le k m (λ p. F.done k p ∙ e k p) (λ p. F.rest k p h ∙ sym (z k p)))

-- ---- an array that is a table at every step

-- an array of zeros is the table of a function that is 0
pub tab_zeros : (n : ℕ) (f : ℕ → ℕ) → ((k : ℕ) → f k ≡ 0) → replicate n 0 ≡ tab n f
tab_zeros n f z = filled_part f f n 0 (replicate n 0) (filled_none f n) (λ k h. refl) (λ k h. z k)

-- a table with one entry stored is the table of a function that differs there alone
pub set_of : {A : Type 0} (d : A) (n i : ℕ) (v : A) (f g : ℕ → A) → i < n → v ≡ g i → ((k : ℕ) → (k ≡ i → ⊥) → f k ≡ g k)
    → set (tab n f) i v ≡ tab n g
set_of d n i v f g h e o =
    tab_of d n g (set (tab n f) i v) (length-set (tab n f) i v ∙ length-tab n f)
    (λ k m. get_or_set d (tab n f) i v k (g k) (rw length-tab h) (λ q. rw q e) (λ q. get_or-tab n f d k m ∙ o k q))

pub set-tab : (n i v : ℕ) (f g : ℕ → ℕ) → i < n → v ≡ g i → ((k : ℕ) → (k ≡ i → ⊥) → f k ≡ g k) → set (tab n f) i v ≡ tab n g
set-tab = set_of 0

-- two neighbours stored one after the other
pub set_two : (n i v w : ℕ) (f g : ℕ → ℕ) → i + 1 < n → v ≡ g i → w ≡ g (i + 1)
    → ((k : ℕ) → (k ≡ i → ⊥) → (k ≡ i + 1 → ⊥) → f k ≡ g k) → set (set (tab n f) i v) (i + 1) w ≡ tab n g
set_two n i v w f g h p q o =
    let half : ℕ → ℕ = λ k. pick (eqb k i) v (f k) in
    ap (λ l. set l (i + 1) w) (set-tab n i v f half (omega arith) (rw (eq-eqb i i refl)) (λ k d. rw (ne_eqb k i d)))
    ∙ set-tab n (i + 1) w half g h q
    (λ k d. by_cases (eqb k i) (λ e. rw e (p ∙ ap g (sym (eqb-true k i e)))) (λ e. rw e (o k (eqb-false k i e) d)))

-- ---- what is left of `flat` at an index, and at the end

pub flat_left : {A B : Type 0} (f : A → List B) (d : A) (l : List A) (k : ℕ) → k < length l → flat f (drop k l) ≡ f (get_or l k d)
    ++ flat f (drop (k + 1) l)
flat_left f d l k h = rw (add-one, drop-cons l k d) (flat_step f (get_or l k d) (drop (suc k) l))

pub flat_none : {A B : Type 0} (f : A → List B) (l : List A) (k : ℕ) → length l ≤ k → flat f (drop k l) ≡ []
flat_none f l k h = rw (drop_of_length-le l h) (flat_end f)

-- the first n entries are the table of them
pub tab-take : (n : ℕ) (l : List ℕ) → n ≤ length l → tab n (λ k. get_or l k 0) ≡ take n l
tab-take n l h = sym (tab_is n (λ k. get_or l k 0) (take n l) (length-take-le n l h) (λ k m. get_or-take n l k 0 m))

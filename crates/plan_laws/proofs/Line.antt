-- SA1 on the line. Number the places of a plan row·T + unit. SA1 lays the slices on this line one after the other: a run never leaves its
-- row, so it is a stretch of places, and the two runs of a split duty are one stretch, since row r ends where row r + 1 begins. So whoever
-- holds a unit is whoever's stretch has its place. A unit's places on the rows are T apart, so a stretch of at most T has one of them at
-- most; and the places of m rows are m·T, of which a stretch that ends by there has its own length. Slices of 0 are among these: their
-- stretch has no place.
-- Assumes nothing.
use Prim.Native.Nat.{ℕ, zero, suc, ◌+◌, ◌*◌, ◌-◌, ◌≤◌, ◌<◌}
use mathlib.Core.Path.{◌≡◌, refl, sym, ap, ◌∙◌}
use mathlib.Core.Bool.{false}
use mathlib.Core.List.{List, [], ◌∷◌}
use native.Mathlib.Nat.{zero-add, add-zero, zero-mul, add_assoc, not-suc-le-zero, le_of_suc-le-suc, mul-le-mul_right}
use native.Mathlib.Nat.{lt_of_mul-lt-mul_right}
use native.Mathlib.Omega.{arith}
use lib.ListN.{length, get_or, take}
use borrow.Author.Tests.{eq-eqb, ne_eqb, lt-ltb, le-ltb, le-leb, lt-leb}
use Rattle.laws.specs.Choice.{pick, one_if}
use Rattle.laws.specs.Lists.{sum_of}
use Rattle.laws.specs.Sum.{sum_to}
use Rattle.laws.proofs.Cases.{by_cases, lt_or_le, both_ways}
use Rattle.laws.proofs.Each.{Each, each_at}
use Rattle.laws.proofs.Decides.{spans, spans_decides, spans_not}
use Rattle.laws.proofs.Sum.{sum_ext, sum_swap, sum_blocks, count_once, count_stretch}
use Rattle.std.specs.Prelude.{None, Some}
use Rattle.paper.specs.Duties.{Held, same}
use Rattle.paper.specs.Words.{row, run, covers, held_in}
use Rattle.paper.specs.Sa1.{lay}
use Rattle.paper.proofs.Holding.{covers-row, covers_has, has_covers}
use Rattle.plan_laws.proofs.Sa1.{lay-cases}

-- who has place p, where the slices, the first of them duty i's, are laid one after the other from place s on
unfoldable pub on_line : List ℕ → (i s p : ℕ) → Held
on_line [] i s p = None
on_line (n ∷ ns) i s p = pick (spans s n p) (Some i) (on_line ns (i + 1) (s + n) p)

-- where slice k starts, if the first starts at 0: after those before it
abbrev pub start_of : List ℕ → ℕ → ℕ
start_of ns k = sum_of (take k ns)

-- ---- the layout is on the line

-- a run inside its row covers a unit where it spans the unit's place
covers-spans : (t r i u n e v : ℕ) → u + n ≤ t → v < t → covers (run r i u n) (row e) v ≡ spans (r * t + u) n (e * t + v)
covers-spans t r i u n e v a b =
    let x = run r i u n in
    let d = spans_decides (r * t + u) n (e * t + v) in
    both_ways (covers x (row e) v) (spans (r * t + u) n (e * t + v))
    (λ p. d.1 (omega (arith, covers_has x (row e) v p, ap (λ (k : ℕ). k * t) (covers-row x (row e) v p))))
    (λ p.
    let h = d.0 p in
    let up : r < e + 1 = lt_of_mul-lt-mul_right t (omega arith) in
    let down : e < r + 1 = lt_of_mul-lt-mul_right t (omega arith) in
    let q : r ≡ e = omega arith in
    has_covers x (row e) v q (omega (arith, ap (λ (k : ℕ). k * t) q)))

-- a stretch and the one that begins where it ends are one
joined :
    (s a s' b n p : ℕ) (g h : Held) → s' ≡ s + a → n ≡ a + b
    → pick (spans s a p) g (pick (spans s' b p) g h) ≡ pick (spans s n p) g h
joined s a s' b n p g h q k =
    lt_or_le p s'
    (λ l. rw (lt-leb s' p l, lt-ltb p (s + a) (omega arith), lt-ltb p (s + n) (omega arith)))
    (λ l. rw (le-leb s' p l, le-leb s p (omega arith), le-ltb p (s + a) (omega arith), q, k, add_assoc s a b))

-- who holds unit v of row e is whoever's stretch has the place e·T + v
pub line :
    (t : ℕ) (ns : List ℕ) (i r u e v : ℕ) → u < t → v < t → Each (λ n. n ≤ t) ns
    → held_in (lay t ns i r u) (row e) v ≡ on_line ns i (r * t + u) (e * t + v)
unfolding lay held_in on_line
line t [] i r u e v a b h = refl
line t (n ∷ ns) i r u e v a b h =
    lay-cases t n ns i r u a h.0 (λ xs. held_in xs (row e) v ≡ on_line (n ∷ ns) i (r * t + u) (e * t + v))
    (λ r' u' g q c d. rw (covers-spans t r i u n e v d b, line t ns (i + 1) r' u' e v c b h.1, q))
    (λ u' q c d.
    let next : (r + 1) * t + u' ≡ r * t + u + n = omega arith in
    rw (covers-spans t r i u (t - u) e v (omega arith) b, covers-spans t (r + 1) i 0 u' e v (omega arith) b)
    (rw (line t ns (i + 1) (r + 1) u' e v c b h.1, next)
    (joined (r * t + u) (t - u) ((r + 1) * t + 0) u' n (e * t + v) _ _ (omega arith) (omega arith))))

-- a place of the duties from j on is none of an earlier duty's
later_not : (ns : List ℕ) (i j s p : ℕ) → i < j → same (on_line ns j s p) (Some i) ≡ false
unfolding on_line same
later_not [] i j s p l = refl
later_not (n ∷ ns) i j s p l =
    by_cases (spans s n p) (λ h. rw h (ne_eqb j i (λ e. omega arith))) (λ h. rw h (later_not ns i (j + 1) (s + n) p (omega arith)))

-- a duty has the places of its own stretch, and no others
pub line_at :
    (ns : List ℕ) (i s p k : ℕ) → k < length ns → same (on_line ns i s p) (Some (i + k)) ≡ spans (s + start_of ns k) (get_or ns k 0) p
unfolding on_line same sum_of
line_at [] i s p k l = absurd (not-suc-le-zero l)
line_at (n ∷ ns) i s p zero l =
    rw (add-zero i, add-zero s)
    (by_cases (spans s n p) (λ h. rw h (eq-eqb i i refl)) (λ h. rw h (later_not ns i (i + 1) (s + n) p (omega arith))))
line_at (n ∷ ns) i s p (suc k) l =
    let duty : i + suc k ≡ i + 1 + k = omega arith in
    by_cases (spans s n p)
    (λ h.
    let past = spans_not (s + (n + start_of ns k)) (get_or ns k 0) p (λ q. omega (arith, (spans_decides s n p).0 h)) in
    rw (h, past) (ne_eqb i (i + suc k) (λ e. omega arith)))
    (λ h. rw (h, duty, ← add_assoc s n (start_of ns k)) (line_at ns (i + 1) (s + n) p k (le_of_suc-le-suc l)))

-- ---- one stretch and the rows

-- on how many of m rows the stretch has the unit u
abbrev pub rows_spanned : (t m s n u : ℕ) → ℕ
rows_spanned t m s n u = sum_to m (λ e. one_if (spans s n (e * t + u)))

-- a stretch of at most T has a unit on one row at most
pub span_once : (t m s n u : ℕ) → n ≤ t → rows_spanned t m s n u ≤ 1
span_once t m s n u a =
    count_once m (λ e. spans s n (e * t + u))
    (λ j k l h p q. omega (arith, (spans_decides s n (j * t + u)).0 p, (spans_decides s n (k * t + u)).0 q, mul-le-mul_right t l))

-- a stretch that ends within m rows has as many of their units as it is long
pub span_all : (t m s n : ℕ) → s + n ≤ m * t → sum_to t (λ u. rows_spanned t m s n u) ≡ n
span_all t m s n a =
    sum_swap t m (λ u e. one_if (spans s n (e * t + u))) ∙ sym (sum_blocks m t (λ p. one_if (spans s n p))) ∙ count_stretch (m * t) s n a

-- ---- one duty and the rows

-- the slices up to k are some of all
start-within : (ns : List ℕ) (k : ℕ) → k < length ns → start_of ns k + get_or ns k 0 ≤ sum_of ns
unfolding sum_of
start-within [] k l = absurd (not-suc-le-zero l)
start-within (n ∷ ns) zero l = omega arith
start-within (n ∷ ns) (suc k) l = omega (arith, start-within ns k (le_of_suc-le-suc l))

-- on how many of m rows duty k holds the unit u, where the slices are laid from row 0 and unit 0 on
abbrev pub rows_held : (t m : ℕ) → List ℕ → (k u : ℕ) → ℕ
rows_held t m ns k u = sum_to m (λ e. one_if (same (held_in (lay t ns 0 0 0) (row e) u) (Some k)))

module _ (t : ℕ) (ns : List ℕ) (h : Each (λ n. n ≤ t) ns) (k : ℕ) (l : k < length ns) where
  -- duty k holds a unit of a row where its stretch has the unit's place
  pub laid_at_lem : (e u : ℕ) → u < t → same (held_in (lay t ns 0 0 0) (row e) u) (Some k)
      ≡ spans (start_of ns k) (get_or ns k 0) (e * t + u)
  laid_at_lem e u a =
      rw (line t ns 0 0 0 e u (omega arith) a h, zero-mul t)
      (rw (zero-add k, zero-add (start_of ns k)) at (line_at ns 0 0 (e * t + u) k l))

  -- so it holds it on as many rows as its stretch has it
  laid_rows : (m u : ℕ) → u < t → rows_held t m ns k u ≡ rows_spanned t m (start_of ns k) (get_or ns k 0) u
  laid_rows m u a =
      sum_ext m (λ e. one_if (same (held_in (lay t ns 0 0 0) (row e) u) (Some k)))
      (λ e. one_if (spans (start_of ns k) (get_or ns k 0) (e * t + u))) (λ e b. ap one_if (laid_at_lem e u a))

  -- that is on one row at most, ..
  pub laid_once : (m u : ℕ) → u < t → rows_held t m ns k u ≤ 1
  laid_once m u a = rw (laid_rows m u a) (span_once t m (start_of ns k) (get_or ns k 0) u (each_at (λ n. n ≤ t) 0 ns h k l))

  -- .. and over a block, where the slices fit the rows, the duty holds its slice
  pub laid_all : (m : ℕ) → sum_of ns ≤ m * t → sum_to t (λ u. rows_held t m ns k u) ≡ get_or ns k 0
  laid_all m a =
      sum_ext t (rows_held t m ns k) (rows_spanned t m (start_of ns k) (get_or ns k 0)) (laid_rows m)
      ∙ span_all t m (start_of ns k) (get_or ns k 0) (omega (arith, start-within ns k l))

-- ---- who has a place, duty after duty

-- the duties from i on, by whether the place is before the end of duty i's stretch
module _ (n : ℕ) (ns : List ℕ) (i s p : ℕ) (a : s ≤ p) where
  line_step : on_line (n ∷ ns) i s p ≡ pick (spans s n p) (Some i) (on_line ns (i + 1) (s + n) p)
  unfolding on_line
  line_step = refl

  pub first_has : p < s + n → on_line (n ∷ ns) i s p ≡ Some i
  first_has h = line_step ∙ rw (le-leb s p a, lt-ltb p (s + n) h)

  pub first_not : s + n ≤ p → on_line (n ∷ ns) i s p ≡ on_line ns (i + 1) (s + n) p
  first_not h = line_step ∙ rw (le-leb s p a, le-ltb p (s + n) h)

pub none_has : (ns : List ℕ) (i s p : ℕ) → length ns ≤ 0 → on_line ns i s p ≡ None
unfolding on_line
none_has [] i s p h = refl
none_has (n ∷ ns) i s p h = absurd (not-suc-le-zero h)

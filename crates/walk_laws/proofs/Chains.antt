-- A chain by its first row and its length, and the closed form of the rotation.
-- Engine e, b blocks on, has the row b places further round its chain: a step goes one place on, and from the last place to the first.
-- Assumes nothing.
use Prim.Native.Nat.{ℕ, zero, suc, ◌+◌, ◌-◌, ◌%◌, ◌≤◌, ◌<◌}
use mathlib.Core.Path.{◌≡◌, sym, ap, ◌∙◌}
use mathlib.Core.Bool.{Bool, true, false, ◌&&◌}
use mathlib.Core.List.{[], ◌∷◌, ◌++◌, append-nil}
use native.Mathlib.Nat.{mod-eq_of_lt, add-mod_left, add-mod-mod}
use native.Mathlib.Omega.{arith}
use lib.Dec.{leb, ltb, eqb}
use borrow.Author.Tests.{eq-eqb, ne_eqb, le-leb, lt-leb, lt-ltb, le-ltb}
use Rattle.laws.specs.Choice.{one_if}
use Rattle.laws.proofs.Cases.{by_cases, lt_or_le, not_both}
use Rattle.laws.proofs.Sum.{sum_ext, count_stretch}
use Rattle.paper.specs.Duties.{engine}
use Rattle.paper.specs.Words.{row}
use Rattle.paper.specs.declared.Chain.{Chain}
use Rattle.paper.specs.Rotation.{first_of, next_of, row_at, chain, chain_length, chains_below}
use Rattle.paper.proofs.Rotation.{first_linked, first_least, first_twice, first_links, first_past, next_linked, next_last, begins}

-- row e is in the chain x: links all along it, and none at its last row
pub record InChain (c : ℕ → Bool) (e : ℕ) (x : Chain) : Type 0 where
  pub low : x.first.0 ≤ e
  pub high : e < x.first.0 + x.length
  pub begins : first_of c x.first.0 ≡ x.first.0
  pub linked : (k : ℕ) → x.first.0 ≤ k → k + 1 < x.first.0 + x.length → c k ≡ true
  pub ends : (k : ℕ) → k + 1 ≡ x.first.0 + x.length → c k ≡ false

module _ (c : ℕ → Bool) where
  -- a row n places on along links has the same first row
  pub first_along : (r n : ℕ) → ((k : ℕ) → r ≤ k → k < r + n → c k ≡ true) → first_of c (r + n) ≡ first_of c r
  first_along r zero h = ap (first_of c) (omega arith)
  first_along r (suc n) h =
      let z : r + suc n ≡ suc (r + n) = omega arith in
      rw z (first_linked c (r + n) (h (r + n) (omega arith) (omega arith)) ∙ first_along r n (λ k l m. h k l (omega arith)))

  -- the first row of a chain's row is where the chain starts
  pub chain_first : {e : ℕ} {x : Chain} → InChain c e x → first_of c e ≡ x.first.0
  chain_first {e} {x} i =
      let z : e ≡ x.first.0 + (e - x.first.0) = omega arith in
      ap (first_of c) z ∙ first_along x.first.0 (e - x.first.0) (λ k l m. i.linked k l (omega arith)) ∙ i.begins

  -- from the first row of a row's chain up to a later row with the same first row, and not linked, is a chain
  pub in_chain : {e first last : ℕ} → first ≡ first_of c e → e ≤ last → first_of c last ≡ first_of c e → c last ≡ false
      → InChain c e (chain first (last + 1 - first))
  in_chain {e} {first} {last} f h p q =
      let least : first_of c e ≤ e = first_least c e in
      record {
        low = omega arith;
        high = omega arith;
        begins = rw f (first_twice c e);
        linked = λ k l m. first_links c last k (omega arith) (omega arith);
        ends = λ k m. let z : k ≡ last = omega arith in rw z q;
      }

  -- another row of the chain is in it too
  pub chain_other : {e : ℕ} {x : Chain} (d : ℕ) → InChain c e x → x.first.0 ≤ d → d < x.first.0 + x.length → InChain c d x
  chain_other d i l h = record { low = l; high = h; begins = i.begins; linked = i.linked; ends = i.ends }

  -- a row of the chain is linked exactly where it is not the last
  pub chain_linked : {e : ℕ} {x : Chain} → InChain c e x → c e ≡ true → e + 1 < x.first.0 + x.length
  chain_linked {e} {x} i p =
      lt_or_le (e + 1) (x.first.0 + x.length) (λ l. l) (λ l. not_both p (i.ends e (omega arith)))

  pub chain_last : {e : ℕ} {x : Chain} → InChain c e x → c e ≡ false → e + 1 ≡ x.first.0 + x.length
  chain_last {e} {x} i p =
      lt_or_le (e + 1) (x.first.0 + x.length) (λ l. not_both (i.linked e i.low l) p) (λ l. omega arith)

  -- one place on, and b more, is suc b places on; from the last place that is once round and b places from the first
  round_on : {e : ℕ} {x : Chain} (b : ℕ) → InChain c e x
      → (next_of c e - x.first.0 + b) % x.length ≡ (e - x.first.0 + suc b) % x.length
  round_on {e} {x} b i =
      by_cases (c e)
      (λ p. ap (λ n. n % x.length) (omega (arith, next_linked c e p)))
      (λ p. let y : next_of c e - x.first.0 + b ≡ b = omega (arith, next_last c e p, chain_first i) in
      let z : e - x.first.0 + suc b ≡ x.length + b = omega (arith, chain_last i p) in
      rw (y, z) (sym (add-mod_left x.length b)))

  -- the next engine is in the chain
  pub chain_next : {e : ℕ} {x : Chain} → InChain c e x → InChain c (next_of c e) x
  chain_next {e} {x} i =
      by_cases (c e)
      (λ p. chain_other (next_of c e) i (omega (arith, next_linked c e p)) (omega (arith, next_linked c e p, chain_linked i p)))
      (λ p. chain_other (next_of c e) i (omega (arith, next_last c e p, chain_first i)) (omega (arith, next_last c e p, chain_first i)))

  -- the closed form: b blocks on, b places further round
  pub row_closed : (b : ℕ) {e : ℕ} {x : Chain} → InChain c e x → (row_at c b (engine e)).0 ≡ x.first.0 + (e - x.first.0 + b) % x.length
  unfolding row_at
  row_closed zero {e} {x} i = omega (arith, mod-eq_of_lt {n = e - x.first.0 + 0} {m = x.length} (omega arith))
  row_closed (suc b) {e} {x} i = row_closed b (chain_next i) ∙ ap (λ n. x.first.0 + n) (round_on b i)

  -- .. with the blocks reduced first, so that no large number is added
  pub row_reduced : (b : ℕ) {e : ℕ} {x : Chain} → InChain c e x
      → row_at c b (engine e) ≡ row (x.first.0 + (e - x.first.0 + b % x.length) % x.length)
  row_reduced b {e} {x} i = ap row (rw (add-mod-mod (e - x.first.0) b x.length) (row_closed b i))

  -- a chain that begins below a row that begins a chain ends there or below
  pub chain_below : (m : ℕ) → first_of c m ≡ m → {e : ℕ} {x : Chain} → InChain c e x → e < m → x.first.0 + x.length ≤ m
  chain_below m s {e} {x} i h =
      lt_or_le m (x.first.0 + x.length) (λ l. absurd (omega (arith, chain_first (chain_other m i (omega arith) l)))) (λ l. l)

  -- a row has the chain's first row exactly where it is one of the chain's
  between : {e : ℕ} {x : Chain} → InChain c e x → (k : ℕ)
      → eqb (first_of c k) x.first.0 ≡ leb x.first.0 k && ltb k (x.first.0 + x.length)
  between {e} {x} i k =
      let from = x.first.0 in
      let past = from + x.length in
      let last : c (past - 1) ≡ false = i.ends (past - 1) (omega arith) in
      lt_or_le k from
      (λ h. rw (ne_eqb (first_of c k) from (λ q. omega (arith, first_least c k)), lt-leb from k))
      (λ h. lt_or_le k past
      (λ l. rw (eq-eqb (first_of c k) from (chain_first (chain_other k i h l)), le-leb from k, lt-ltb k past))
      (λ l. rw (
        ne_eqb (first_of c k) from (λ q. omega (arith, first_past c (past - 1) k last (omega arith))),
        le-leb from k,
        le-ltb k past,
      )))

  -- the length of a chain within m rows
  pub chain_length_lem : (m : ℕ) {e : ℕ} {x : Chain} → InChain c e x → x.first.0 + x.length ≤ m → chain_length c m x.first.0 ≡ x.length
  unfolding chain_length
  chain_length_lem m {e} {x} i h =
      sum_ext m (λ k. one_if (eqb (first_of c k) x.first.0)) (λ k. one_if (leb x.first.0 k && ltb k (x.first.0 + x.length)))
      (λ k l. ap one_if (between i k))
      ∙ count_stretch m x.first.0 x.length (omega arith)

  -- ---- the list of chains

  -- a row that begins a chain adds it, another row adds nothing
  chains_begin : (m k : ℕ) → first_of c k ≡ k → chains_below c m (suc k) ≡ chains_below c m k ++ (chain k (chain_length c m k) ∷ [])
  unfolding chains_below
  chains_begin m k h = rw (eq-eqb (first_of c k) k h)

  chains_go : (m k : ℕ) → (first_of c k ≡ k → ⊥) → chains_below c m (suc k) ≡ chains_below c m k
  unfolding chains_below
  chains_go m k h = rw (ne_eqb (first_of c k) k h) (append-nil (chains_below c m k))

  -- for code that goes from chain to chain: past the last row of a chain, the list has that chain more than at its first
  pub chains_more : (m : ℕ) {x : Chain} → InChain c x.first.0 x → x.first.0 + x.length ≤ m
      → chains_below c m (x.first.0 + x.length) ≡ chains_below c m x.first.0 ++ (x ∷ [])
  chains_more m {x} i h =
      let z : x.first.0 + x.length ≡ suc (x.first.0 + (x.length - 1)) = omega arith in
      rw z (along (x.length - 1) (omega arith) ∙ chains_begin m x.first.0 i.begins)
      ∙ ap (λ n. chains_below c m x.first.0 ++ (chain x.first.0 n ∷ [])) (chain_length_lem m i h)
    where
      along : (n : ℕ) → n < x.length → chains_below c m (suc (x.first.0 + n)) ≡ chains_below c m (suc x.first.0)
      along zero l = ap (λ k. chains_below c m (suc k)) (omega arith)
      along (suc n) l =
          let k = x.first.0 + n in
          let z : x.first.0 + suc n ≡ suc k = omega arith in
          let here = chain_first (chain_other (suc k) i (omega arith) (omega arith)) in
          rw z (chains_go m (suc k) (λ e. omega (arith, here)) ∙ along n (omega arith))

  -- for the same: at a row that begins a chain, below m rows that end with one, the chain begins with the row and ends within them, and the
  -- next begins where it ends
  pub record Onward (m first : ℕ) (x : Chain) : Type 0 where
    pub same : x.first.0 ≡ first
    pub own : InChain c x.first.0 x
    pub within : first + x.length ≤ m
    pub begins : first_of c (first + x.length) ≡ first + x.length

  pub onward : (m : ℕ) → first_of c m ≡ m → {first : ℕ} {x : Chain} → first_of c first ≡ first → InChain c first x → first < m
      → Onward m first x
  onward m closed {first} {x} p i h =
      let z : x.first.0 ≡ first = sym (chain_first i) ∙ p in
      record {
        same = z;
        own = chain_other x.first.0 i (omega arith) (omega (arith, i));
        within = omega (arith, chain_below m closed i h);
        begins = begins c (first + x.length) (omega (arith, i)) (i.ends (first + x.length - 1) (omega (arith, i)));
      }

  -- past it the list has that chain more
  pub chains_onward : {m first : ℕ} {x : Chain} → Onward m first x → chains_below c m (first + x.length)
      ≡ chains_below c m first ++ (x ∷ [])
  chains_onward {m} {first} {x} on =
      ap (λ n. chains_below c m (n + x.length)) (sym on.same) ∙ chains_more m on.own (omega (arith, on.same, on.within))
      ∙ ap (λ n. chains_below c m n ++ (x ∷ [])) on.same

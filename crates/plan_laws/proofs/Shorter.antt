-- SA1 in blocks of T and of k·T. Where every slice is whole for T, the slices for k·T are k times as long, and they are laid out in the
-- same way: k times a number is below k times another exactly where the number is below the other, so a slice ends inside its row, at its
-- end or past it in the one block where it does in the other. So the plan for k·T is the plan for T in large: each run has its first unit
-- and its length times k, unit v is held by whoever holds unit v/k of the shorter block, the chains are the same, and what an engine runs
-- at tick n it runs at tick n/k with the shorter blocks.
-- Assumes nothing.
use Prim.Native.Nat.{ℕ, suc, ◌+◌, ◌*◌, ◌-◌, ◌/◌, ◌%◌, ◌≤◌}
use mathlib.Core.Path.{◌≡◌, refl, sym, ap, ◌∙◌}
use mathlib.Core.Bool.{Bool}
use mathlib.Core.List.{List, [], ◌∷◌, map}
use native.Mathlib.Nat.{mul-zero, mul-add, mul-sub, mul_comm, mul_assoc, mul-le-mul_left, mul-lt-mul_of_pos_left, mul-div_assoc}
use native.Mathlib.Nat.{le-div_iff_mul-le, div-lt_iff_lt-mul, mul-add-div, div-eq_of_lt, div-div-eq-div-mul, mod-lt, mod_def}
use native.Mathlib.Nat.{mod-add-div}
use native.Mathlib.Omega.{arith}
use lib.Dec.{leb, ltb}
use borrow.Author.Tests.{le-leb, lt-leb, lt-ltb, le-ltb, leb-true, leb-false, ltb-true, ltb-false}
use Rattle.laws.proofs.Cases.{by_cases}
use Rattle.paper.specs.declared.Row.{Row}
use Rattle.paper.specs.declared.Engine.{Engine}
use Rattle.paper.specs.declared.Duty.{Duty}
use Rattle.paper.specs.declared.Run.{Run}
use Rattle.paper.specs.Words.{row, run, slice, covers, held_in}
use Rattle.paper.specs.Sa1.{lay_one, row_after, unit_after, lay, slices, sa1}
use Rattle.paper.specs.Rotation.{link, chains_below, chains}
use Rattle.paper.specs.Walk.{walk}
use Rattle.table_laws.proofs.Rules.{Wholes}

-- a run with k times its units, from k times its first unit on
abbrev pub enlarged : ℕ → Run → Run
enlarged k x = run x.row.0 x.duty (k * x.first) (k * x.length)

module _ (k : ℕ) (some : 1 ≤ k) where
  -- ---- numbers k times as large compare alike

  leb_enlarged : (a b : ℕ) → leb (k * a) (k * b) ≡ leb a b
  leb_enlarged a b =
      by_cases (leb a b)
      (λ p. le-leb (k * a) (k * b) (mul-le-mul_left k (leb-true a b p)) ∙ sym p)
      (λ p. lt-leb (k * a) (k * b) (mul-lt-mul_of_pos_left (leb-false a b p) some) ∙ sym p)

  ltb_enlarged : (a b : ℕ) → ltb (k * a) (k * b) ≡ ltb a b
  ltb_enlarged a b =
      by_cases (ltb a b)
      (λ p. lt-ltb (k * a) (k * b) (mul-lt-mul_of_pos_left (ltb-true a b p) some) ∙ sym p)
      (λ p. le-ltb (k * a) (k * b) (mul-le-mul_left k (ltb-false a b p)) ∙ sym p)

  -- ---- the layout

  lay_enlarged : (t : ℕ) (ns : List ℕ) (i r u : ℕ) → lay (k * t) (map (λ n. k * n) ns) i r (k * u) ≡ map (enlarged k) (lay t ns i r u)
  unfolding lay lay_one row_after unit_after
  lay_enlarged t [] i r u = refl
  lay_enlarged t (n ∷ ns) i r u =
      let sum = mul-add k u n in
      by_cases (leb (u + n) t)
      (λ p. by_cases (ltb (u + n) t)
      (λ q. rw (← sum, leb_enlarged (u + n) t, p, ltb_enlarged (u + n) t, q)
      (ap (λ l. run r i (k * u) (k * n) ∷ l) (lay_enlarged t ns (i + 1) r (u + n))))
      (λ q. rw (← sum, leb_enlarged (u + n) t, p, ltb_enlarged (u + n) t, q, ← mul-sub k (u + n) t)
      (ap (λ l. run r i (k * u) (k * n) ∷ l) (lay_enlarged t ns (i + 1) (r + 1) (u + n - t)))))
      (λ p. by_cases (ltb (u + n) t) (λ q. absurd (omega (arith, leb-false (u + n) t p, ltb-true (u + n) t q)))
      (λ q. rw (← sum, leb_enlarged (u + n) t, p, ltb_enlarged (u + n) t, q, ← mul-sub k (u + n) t, ← mul-sub k t u, mul-zero)
      (ap (λ l. run r i (k * u) (k * (t - u)) ∷ run (r + 1) i 0 (k * (u + n - t)) ∷ l) (lay_enlarged t ns (i + 1) (r + 1) (u + n - t)))))

  slices_enlarged : (t : ℕ) (ds : List Duty) → Wholes t ds → slices (k * t) ds ≡ map (λ n. k * n) (slices t ds)
  unfolding slice
  slices_enlarged t [] w = refl
  slices_enlarged t (x ∷ ds) w =
      let here : k * t * x.service / x.period ≡ k * (t * x.service / x.period) =
      rw (mul_assoc k t x.service) (mul-div_assoc x.period k (w 0 (omega arith))) in
      rw here (ap (λ l. k * (t * x.service / x.period) ∷ l) (slices_enlarged t ds (λ i l. w (suc i) (omega arith))))

  -- ---- who holds a unit

  covers_enlarged : (x : Run) (r : Row) (v : ℕ) → covers (enlarged k x) r v ≡ covers x r (v / k)
  unfolding covers
  covers_enlarged x r v =
      let from : leb (k * x.first) v ≡ leb x.first (v / k) =
      by_cases (leb x.first (v / k))
      (λ p. le-leb (k * x.first) v (rw (mul_comm k) ((le-div_iff_mul-le some).0 (leb-true x.first (v / k) p))) ∙ sym p)
      (λ p. lt-leb (k * x.first) v (rw (mul_comm k) ((div-lt_iff_lt-mul some).0 (leb-false x.first (v / k) p))) ∙ sym p) in
      let end = x.first + x.length in
      let upto : ltb v (k * end) ≡ ltb (v / k) end =
      by_cases (ltb (v / k) end)
      (λ p. lt-ltb v (k * end) (rw (mul_comm k) ((div-lt_iff_lt-mul some).0 (ltb-true (v / k) end p))) ∙ sym p)
      (λ p. le-ltb v (k * end) (rw (mul_comm k) ((le-div_iff_mul-le some).0 (ltb-false (v / k) end p))) ∙ sym p) in
      rw (← mul-add k x.first x.length, from, upto)

  held_enlarged : (xs : List Run) (r : Row) (v : ℕ) → held_in (map (enlarged k) xs) r v ≡ held_in xs r (v / k)
  unfolding held_in
  held_enlarged [] r v = refl
  held_enlarged (x ∷ xs) r v = rw (covers_enlarged x r v, held_enlarged xs r v)

  -- the unit of a tick in the longer block, in k-fold units, is that of its k-fold tick in the shorter
  unit_slowed : (n t : ℕ) → n % (k * t) / k ≡ n / k % t
  unit_slowed n t =
      let unit = n / k % t in
      let whole = sym (mul-add k unit (t * (n / k / t))) ∙ ap (λ (q : ℕ). k * q) (mod-add-div (n / k) t) in
      let split : n % (k * t) ≡ k * unit + n % k =
      let blocks = ap (λ (q : ℕ). k * t * q) (div-div-eq-div-mul n k t) in
      omega (arith, mod_def n (k * t), blocks, mul_assoc k t (n / k / t), whole, mod-add-div n k) in
      rw (split, mul-add-div some unit (n % k), div-eq_of_lt {n = n % k} {m = k} (mod-lt n some)) (omega arith)

  module _ (t m : ℕ) (ds : List Duty) (tick : 1 ≤ t) (w : Wholes t ds) where
    -- each run in large
    pub runs_enlarged : (sa1 (k * t) m ds).runs ≡ map (enlarged k) (sa1 t m ds).runs
    unfolding sa1
    runs_enlarged =
        let laid = lay_enlarged t (slices t ds) 0 0 0 in
        rw (slices_enlarged t ds w) (rw mul-zero at laid)

    -- the last unit is in the last of the k-fold units
    last_unit : (k * t - 1) / k ≡ t - 1
    last_unit =
        let split : k * t - 1 ≡ k * (t - 1) + (k - 1) = omega (arith, mul-sub k t 1, mul-le-mul_left k tick) in
        rw (split, mul-add-div some (t - 1) (k - 1), div-eq_of_lt {n = k - 1} {m = k} (omega arith)) (omega arith)

    link_enlarged : (r : ℕ) → link (sa1 (k * t) m ds) r ≡ link (sa1 t m ds) r
    unfolding link sa1
    link_enlarged r =
        let xs = lay t (slices t ds) 0 0 0 in
        let zero_in : 0 / k ≡ 0 = div-eq_of_lt {n = 0} {m = k} (omega arith) in
        rw (runs_enlarged, held_enlarged xs (row r) (k * t - 1), last_unit, held_enlarged xs (row (r + 1)) 0, zero_in)

    pub chains_enlarged : chains (sa1 (k * t) m ds) ≡ chains (sa1 t m ds)
    unfolding sa1
    chains_enlarged = ap (λ (c : ℕ → Bool). chains_below c m m) (λ i r. link_enlarged r i)

    -- so the longer plan is the shorter one, k times as slow
    pub walk_slowed : (e : Engine) (n : ℕ) → walk (sa1 (k * t) m ds) e n ≡ walk (sa1 t m ds) e (n / k)
    unfolding walk sa1
    walk_slowed e n =
        let xs = lay t (slices t ds) 0 0 0 in
        let links : link (sa1 (k * t) m ds) ≡ link (sa1 t m ds) = λ i r. link_enlarged r i in
        rw (links, runs_enlarged, held_enlarged xs _ (n % (k * t)), ← div-div-eq-div-mul n k t, unit_slowed n t)

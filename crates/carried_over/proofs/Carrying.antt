-- What is carried, by the edges alone. Along a chain each row but the last carries its duty on to the next row, which is linked to it; the
-- last carries it on where the chain closes. The edges of a table tell what holds a row's first and last unit, so what they carry the table
-- does.
-- Assumes nothing.
use Prim.Native.Nat.{ℕ, zero, suc, ◌+◌, ◌-◌, ◌≤◌, ◌<◌}
use mathlib.Core.Path.{◌≡◌, refl, sym, ap, ◌∙◌}
use mathlib.Core.Bool.{Bool, true}
use mathlib.Core.List.{List}
use native.Mathlib.Numerals.{add-one}
use native.Mathlib.Omega.{arith}
use Rattle.laws.specs.Choice.{one_if}
use Rattle.laws.specs.Sum.{sum_to}
use Rattle.laws.proofs.Sum.{sum_none, sum_more, sum_ext}
use Rattle.paper.specs.declared.Chain.{Chain}
use Rattle.paper.specs.Limits.{small, most_engines}
use Rattle.paper.specs.Duties.{same}
use Rattle.paper.specs.Words.{row, Table, held_in}
use Rattle.paper.specs.Rotation.{next_of, link}
use Rattle.paper.specs.Statements.{Ranged}
use Rattle.walk_laws.proofs.Page.{next_linked, next_last, carried, InChain, chain_first, chain_other, Onward, carried_is}
use Rattle.table_tally.specs.Tally.{edges_of}
use Rattle.table_tally.proofs.Linked.{first_tells, last_tells, edges_link}
use Rattle.row_edges.specs.Links.{first_edge, last_edge, rows_go_on, link_by, same_code, first_code, last_code, codes_go_on}
use Rattle.row_edges.proofs.Linking.{link_at}
use Rattle.carried_over.specs.Carried.{carries_of, carried_of, carried_in}

-- the count, row by row
module _ (goes_on : ℕ → ℕ → Bool) where
  pub carried_none : carried_of goes_on 0 ≡ 0
  unfolding carried_of
  carried_none = sum_none (λ r. one_if (carries_of goes_on r))

  carried_more : (r : ℕ) → carried_of goes_on (r + 1) ≡ carried_of goes_on r + one_if (carries_of goes_on r)
  unfolding carried_of
  carried_more r = sum_more r (λ k. one_if (carries_of goes_on k))

  -- a linked row carries, ..
  carries_linked : (r : ℕ) → r < most_engines → link_by goes_on r ≡ true → carries_of goes_on r ≡ true
  carries_linked r h p = rw (next_linked (link_by goes_on) r p, ← add-one r) (link_at goes_on h ∙ p)

  -- .. so along a chain all rows do, ..
  carried_along : {x : Chain} → InChain (link_by goes_on) x.first.0 x → x.first.0 + x.length ≤ most_engines + 1
      → (n : ℕ) → n < x.length → carried_of goes_on (x.first.0 + n) ≡ carried_of goes_on x.first.0 + n
  carried_along {x} i few zero h = let z : x.first.0 + 0 ≡ x.first.0 = omega arith in rw z (omega arith)
  carried_along {x} i few (suc n) h =
      let r = x.first.0 + n in
      let z : x.first.0 + suc n ≡ r + 1 = omega arith in
      let goes = ap one_if (carries_linked r (omega arith) (i.linked r (omega arith) (omega arith))) in
      rw z (omega (arith, carried_more r, carried_along i few n (omega arith), goes))

  -- .. and the last where the chain closes
  carried_chain : {x : Chain} → InChain (link_by goes_on) x.first.0 x → x.first.0 + x.length ≤ most_engines + 1
      → carried_of goes_on (x.first.0 + x.length) ≡ carried_of goes_on x.first.0 + carried_in goes_on x
  carried_chain {x} i few =
      let r = x.first.0 + x.length - 1 in
      let last = i.ends r (omega arith) in
      let home = chain_first (link_by goes_on) (chain_other (link_by goes_on) r i (omega arith) (omega arith)) in
      let next : next_of (link_by goes_on) r ≡ x.first.0 = next_last (link_by goes_on) r last ∙ home in
      let closing = ap (λ n. one_if (goes_on r n)) next in
      let y : x.first.0 + x.length ≡ r + 1 = omega arith in
      let z : x.first.0 + (x.length - 1) ≡ r = omega arith in
      let along = rw z at (carried_along i few (x.length - 1) (omega arith)) in
      ap (carried_of goes_on) y ∙ omega (arith, carried_more r, along, closing)

  -- .. for code that goes from chain to chain
  pub carried_onward : {m first : ℕ} {x : Chain} → Onward (link_by goes_on) m first x → x.first.0 + x.length ≤ most_engines + 1
      → carried_of goes_on (first + x.length) ≡ carried_of goes_on first + carried_in goes_on x
  carried_onward {m} {first} {x} on few =
      ap (λ n. carried_of goes_on (n + x.length)) (sym on.same) ∙ carried_chain on.own few
      ∙ ap (λ n. carried_of goes_on n + carried_in goes_on x) on.same

module _ (t : Table) (G : Ranged small t) where
  -- of a table, row by row: what the edges tell is what its rows hold
  carries_code : (r : ℕ)
      → carries_of (rows_go_on (edges_of t)) r ≡ same (held_in t.runs (row r) (t.ticks - 1)) (held_in t.runs (row (next_of (link t) r)) 0)
  carries_code r =
      let next : ℕ = next_of (link t) r in
      ap (λ c. same (last_edge (edges_of t) r) (first_edge (edges_of t) (next_of c r))) (edges_link t G)
      ∙ rw (last_tells t G r, first_tells t G next) refl

  -- so the edges of a table carry what it does
  pub carried_code : carried_of (rows_go_on (edges_of t)) t.engines ≡ carried t
  unfolding carried_of
  carried_code = sum_ext t.engines _ _ (λ r h. ap one_if (carries_code r)) ∙ sym (carried_is t)

-- of edges as codes: at how many rows the code at the end and that at unit 0 of the next row of the row's engine are the same and not idle
module _ (codes : List ℕ) where
  pub carried_codes : (m : ℕ)
      → carried_of (codes_go_on codes) m
      ≡ sum_to m (λ r. one_if (same_code (last_code codes r) (first_code codes (next_of (link_by (codes_go_on codes)) r))))
  unfolding carried_of
  carried_codes m = refl

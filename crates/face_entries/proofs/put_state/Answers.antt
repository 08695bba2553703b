-- `put_state`: after e turns the block and all of the rows but those from e on are laid over the state.
use mathlib.Core.Path.{◌≡◌, refl, ◌∙◌}
use Prim.Native.Nat.{ℕ, ◌+◌, ◌≤◌, ◌<◌}
use native.Mathlib.Numerals.{add-one}
use native.Mathlib.Omega.{arith}
use borrow.Author.Rules.{rules}
use mathlib.Core.List.{List, [], ◌∷◌}
use lib.ListN.{length, drop, get_or, length-set, length-map, drop_of_length-le, get_or-map}
use lib.Seq.{drop-cons}
use Rattle.laws.proofs.Writing.{stored, done, next}
use Rattle.paper.specs.declared.Row.{Row}
use Rattle.paper.specs.Words.{row, row_numbers}
use Rattle.face_entries.proofs.Opened.{opened, opened-over}
use Rattle.face_entries.proofs.put_state.Goals as goal

-- what is left of the numbers, by the row that was read, and at the end
numbers-left : (rs : List Row) (e : ℕ) → e < length rs
    → drop e (row_numbers rs) ≡ (get_or rs e (row 0)).0 ∷ drop (e + 1) (row_numbers rs)
numbers-left rs e h = rw (add-one, ← get_or-map (λ r. r.0) rs e (row 0)) (drop-cons (row_numbers rs) e 0 (rw length-map h))

numbers-none : (rs : List Row) (e : ℕ) → length rs ≤ e → drop e (row_numbers rs) ≡ []
numbers-none rs e h = drop_of_length-le (row_numbers rs) {i = e} (rw length-map h)

pub loop-e-init : goal.loop-e-init
loop-e-init c = (omega arith, search rules, simp length-set (omega arith), refl, opened _ _ (simp length-set (omega arith)))

pub loop-e-preserved : goal.loop-e-preserved
loop-e-preserved c =
    let rows = c.args.rows in
    let loop = c.loop-e in
    let number = (get_or rows loop.e (row 0)).0 in
    let here = numbers-left rows loop.e (omega arith) in (
      omega arith,
      omega arith,
      omega arith,
      rw length-set loop.invariant.3,
      rw c.from.ensures
          (stored _ _ (drop (loop.e + 1) (row_numbers rows)) _ number (loop.e + 1) (next here loop.invariant.4) (omega arith)),
    )

pub shape_of-state : goal.shape_of-state
shape_of-state c =
    c.loop-e.invariant.3 ∙ length-set c.args.state.now 0 c.args.block

pub returns : goal.returns
returns c =
    let args = c.args in
    let end = c.loop-e in
    let none = numbers-none args.rows end.e (omega arith) in
    done _ _ end.state (end.e + 1) (next none end.invariant.4)
    ∙ opened-over args.block (row_numbers args.rows) args.state.now (omega arith)

-- `state_in`: each row is an entry of the list, the block its first.
use Prim.Native.Nat.{ℕ}
use borrow.Author.Rules.{rules}
use Rattle.paper.specs.Words.{row}
use Rattle.paper.specs.Limits.{most_engines}
use Rattle.face_entries.specs.Cut.{cut_row}
use Rattle.face_entries.proofs.FromFn.{from_fn_tab}
use Rattle.face_entries.proofs.state_in.Goals as goal

pub returns : goal.returns
returns c =
    let entry = λ (e : ℕ). row (cut_row c.args.state.now e) in
    rw (from_fn_tab _ _ entry (λ i y q k. search rules) (row 0) c.from_fn-rows.result most_engines c.from_fn-rows.ensures.items)

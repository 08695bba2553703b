-- `write_list`: all blocks are put, one after the other.
use Prim.Native.Nat.{ℕ}
use mathlib.Core.Path.{◌≡◌, ap, ◌∙◌}
use mathlib.Core.List.{List}
use Rattle.laws.specs.Lists.{over}
use Rattle.paper.specs.Sa2.{Sharing}
use Rattle.paper.specs.Shares.{blocks, share_list}
use Rattle.share_block.specs.Paced.{Pace, pace}
use Rattle.share_pass.specs.Passing.{allotted}
use Rattle.share_list.proofs.write_list.Goals as goal

list_is : {s : Sharing} {p : Pace} {n : ℕ} → p ≡ pace s 0 → n ≡ blocks s → allotted p.sharing n ≡ share_list s
unfolding share_list
list_is e f = rw (e, f)

pub returns : goal.returns
returns c =
    c.put_blocks.ensures.written
    ∙ ap (λ (l : List ℕ). over l c.args.list.now) (list_is c.begin-paces.ensures.paced c.blocks-2.ensures.value)

-- `put_table`: the head over the front, then the duties with their runs, and the end, each behind the last.
use Prim.Native.Nat.{ℕ, ◌+◌}
use mathlib.Core.Path.{◌≡◌, sym, ap, ◌∙◌}
use mathlib.Core.List.{List}
use native.Mathlib.Omega.{arith}
use lib.ListN.{length}
use Rattle.laws.specs.Lists.{over}
use Rattle.paper.specs.Limits.{small, head_length}
use Rattle.paper.specs.Bytes.{end_bytes}
use Rattle.record_write.specs.Head.{head_of}
use Rattle.sa1_table.specs.RunBytes.{records_bytes}
use Rattle.sa1_table.proofs.Table.{table_is, head_of_length, records_length_lem, parts-written}
use Rattle.sa1_table.proofs.put_table.Goals as goal

pub returns : goal.returns
returns c =
    let out = c.args.out.now in
    let runs = c.args.runs in
    let t = c.args.laying.now.ticks in
    let m = c.args.laying.now.engines in
    let ds = c.args.laying.now.duties in
    let n = c.duty_count.result in
    let W = records_bytes t ds in
    let end-place = head_length small + c.put_records-end.result in
    let long : head_length small + length W ≡ end-place = omega (arith, records_length_lem t ds, c.put_records-end.ensures.1) in
    let headed = rw (c.ticks.ensures.value, c.engines.ensures) at c.put_head.ensures in
    parts-written (head_of t m n) W (end_bytes runs) out _ _ _ (head_length small) end-place (head_of_length t m n) long headed
    c.put_records-end.ensures.0 c.put_end.ensures
    ∙ ap (λ (w : List ℕ). over w out) (sym (table_is t m n runs ds c.duty_count.ensures.value c.requires.0))

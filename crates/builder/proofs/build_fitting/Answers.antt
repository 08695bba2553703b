-- `build_fitting`: 6 is told by what was measured first; past it the layout tells what the slices add up to and how long the table is, by
-- which 7 and 8 are told, and what is written is the table.
use Prim.Native.Nat.{◌*◌}
use mathlib.Core.Path.{sym, ◌∙◌}
use Rattle.std.proofs.lemmas.Result.{err_from_is_err_and}
use lib.ListN.{length}
use Rattle.paper.specs.Sa1.{sa1}
use Rattle.paper.specs.Limits.{small, table_length}
use Rattle.paper.specs.Bytes.{bytes_of}
use Rattle.paper.proofs.Outcomes.{writes_refused, writes_length}
use Rattle.sa1_runs.specs.Laying.{units_to}
use Rattle.sa1_runs.proofs.Fitting.{fitted_told}
use Rattle.builder.proofs.Sized.{refusal_6, size, decided}
use Rattle.builder.proofs.build_fitting.Goals as goal

pub returns-in_err-laid : goal.returns-in_err-laid
returns-in_err-laid c =
    let l = c.args.laying.now in
    let p = err_from_is_err_and c.from_residual.result c.from_residual.ensures.1 in
    let told = c.in_err-laid.ensures in
    rw (p.1, p.2, told.1) (writes_refused _ _ (refusal_6 l.ticks l.engines l.duties _ told.0))

pub returns-in_err-needed : goal.returns-in_err-needed
returns-in_err-needed c =
    let l = c.args.laying.now in
    let p = err_from_is_err_and c.from_residual-in_err-needed.result c.from_residual-in_err-needed.ensures.1 in
    let refuses = rw (c.ticks.ensures.value, c.engines.ensures, c.duty_count.ensures.value) at c.in_err-needed.ensures in
    rw (p.1, p.2) (writes_refused _ _ (decided l.ticks l.engines (length c.args.out.now) c.in_ok-laid.ensures refuses))

pub returns : goal.returns
returns c =
    let l = c.args.laying.now in
    let laid = c.in_ok-laid.ensures in
    let room = length c.args.out.now in
    let answers = rw (c.ticks.ensures.value, c.engines.ensures, c.duty_count.ensures.value) at c.in_ok-needed.ensures in
    let needed = table_length small (length l.duties) c.in_ok-laid.laid.runs in
    let told = fitted_told (l.engines * l.ticks) (units_to l.ticks c.in_ok-laid.laid.end) needed room _ answers in
    writes_length (bytes_of (sa1 l.ticks l.engines l.duties)) _ _ (decided l.ticks l.engines room laid answers)
    (size l.ticks l.engines laid ∙ sym told.0) c.put_table.ensures

-- `put_duty_runs`: one record over the front, and a second behind it where the slice is split.
use Prim.Native.Nat.{ℕ}
use mathlib.Core.Path.{sym, ap, ◌∙◌}
use mathlib.Core.List.{List, [], ◌++◌}
use native.Mathlib.Omega.{arith}
use Rattle.laws.specs.Lists.{over}
use Rattle.laws.proofs.Writing.{begun, more, moved, done}
use Rattle.paper.specs.declared.Run.{Run}
use Rattle.paper.specs.Limits.{small, run_length}
use Rattle.paper.specs.Bytes.{run_bytes}
use Rattle.table_laws.proofs.Bytes.{length_run}
use Rattle.sa1_runs.specs.Laying.{first_run, second_run}
use Rattle.sa1_runs.proofs.Laying.{runs_one, runs_two}
use Rattle.sa1_table.proofs.Table.{lent}
use Rattle.sa1_table.proofs.RunBytes.{bytes_whole, bytes_split}
use Rattle.sa1_table.proofs.put_duty_runs.Goals as goal

pub returns-then-runs-eq1 : goal.returns-then-runs-eq1
returns-then-runs-eq1 c =
    let out = c.args.out.now in
    let s = c.args.slice.now in
    let one = sym c.runs.ensures.0 ∙ c.if-runs-eq1.true in
    let first = c.put_run.ensures ∙ ap (λ (x : Run). over (run_bytes small x) out) c.first_run.ensures in
    let all = bytes_whole s.ticks s.units c.args.i s.from (runs_one _ _ _ one) in
    (first ∙ ap (λ (w : List ℕ). over w out) (sym all), omega (arith, one))

pub returns : goal.returns
returns c =
    let out = c.args.out.now in
    let s = c.args.slice.now in
    let two = runs_two s.ticks s.units s.from.unit (λ e. c.if-runs-eq1.false (c.runs.ensures.0 ∙ e)) in
    let x = first_run s.ticks s.units c.args.i s.from in
    let p = run_bytes small x in
    let q = run_bytes small (second_run s.ticks s.units c.args.i s.from) in
    let wrote = c.put_run.ensures ∙ ap (λ (y : Run). over (run_bytes small y) out) c.first_run.ensures in
    let first = moved (length_run small x) (begun out (q ++ []) p _ wrote) in
    let rest = lent (run_length small) c.put_run.new.out in
    let second = c.put_run-2.ensures ∙ ap (λ (y : Run). over (run_bytes small y) rest) c.second_run.ensures in
    let all = bytes_split s.ticks s.units c.args.i s.from two.0 in (
      done _ out _ _ (more (p ++ (q ++ [])) out [] c.put_run.new.out q c.put_run-2.new.out (run_length small) first second)
          ∙ ap (λ (w : List ℕ). over w out) (sym all),
      omega (arith, two.1),
    )

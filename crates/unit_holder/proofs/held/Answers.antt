-- `held`: by the run that was found.
use mathlib.Core.Path.{refl, sym, ap, ◌∙◌}
use native.Mathlib.Omega.{arith}
use Rattle.std.specs.Prelude.{Some}
use Rattle.paper.specs.declared.Run.{Run}
use Rattle.unit_holder.proofs.Finding.{held_found, held_not_found}
use Rattle.unit_holder.proofs.held.Goals as goal

pub returns-then-k-runs : goal.returns-then-k-runs
returns-then-k-runs c =
    ap (λ (x : Run). Some x.duty) c.run.ensures.told
    ∙ sym (held_found c.args.table.now.runs _ _ _ c.find_run-k.result refl c.find_run-k.ensures (omega arith))

pub returns-else-k-runs : goal.returns-else-k-runs
returns-else-k-runs c = sym (held_not_found c.args.table.now.runs _ _ _ c.find_run-k.result refl c.find_run-k.ensures (omega arith))

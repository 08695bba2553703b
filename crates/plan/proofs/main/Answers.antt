-- `main`: what was printed is no longer than the buffer that it stands in; of output that is lost nothing is to be shown.
use mathlib.Core.Path.{sym}
use lib.Seq.{length-take-le}
use Rattle.line_print.proofs.Line.{puts_fits}
use Rattle.plan.proofs.main.Goals as goal

pub slice_bounds-out-end : goal.slice_bounds-out-end
slice_bounds-out-end c = puts_fits _ _ _ _ c.run_plan-length.ensures

pub slice_bounds-write_all-end : goal.slice_bounds-write_all-end
slice_bounds-write_all-end c = sym (length-take-le _ _ (puts_fits _ _ _ _ c.run_plan-length.ensures))

use Rattle.share_pass.proofs.Passing.{Passing}
use Rattle.share_pass.proofs.pass_blocks.Given as goal

abbrev pub invariant-loop-b : goal.invariant-loop-b
invariant-loop-b l = Passing l.initial.paces l.to l.initial.units l.initial.cuts l.b l.paces l.units l.cuts

-- What was read so far stands at the front of the buffer.
-- Assumes nothing.
use Rattle.std.proofs.Common.{◌≤◌, ◌+◌}
use Rattle.paper.specs.Limits.{most_input}
use Rattle.plan.proofs.main.Given as goal

abbrev pub invariant-loop : goal.invariant-loop
invariant-loop l = l.n ≤ most_input + 1

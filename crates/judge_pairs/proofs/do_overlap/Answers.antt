-- `do_overlap`: the row, and what `do_meet` tells.
use Rattle.paper.specs.Rules.{overlaps}
use Rattle.judge_pairs.proofs.do_overlap.Goals as goal

pub returns : goal.returns
unfolding overlaps
returns c = rw (c.eq.ensures, c.do_meet.ensures)

-- `take_sharing`: duties that were taken are shareable in blocks of their greatest length.
use mathlib.Core.Path.{sym, ◌∙◌}
use Rattle.paper.specs.Wanted.{wanted}
use Rattle.share_common.proofs.Counting.{taken_shareable, shared_is}
use Rattle.share_common.proofs.take_sharing.Goals as goal

pub new-requires : goal.new-requires
new-requires c =
    let x = wanted c.args.engines c.args.services.now c.args.periods.now in
    taken_shareable x _ _ c.in_ok-duties.ensures c.greatest-ticks.ensures

pub returns : goal.returns
returns c =
    let x = wanted c.args.engines c.args.services.now c.args.periods.now in
    c.new.ensures ∙ sym (shared_is x _ _ c.in_ok-duties.ensures c.greatest-ticks.ensures)

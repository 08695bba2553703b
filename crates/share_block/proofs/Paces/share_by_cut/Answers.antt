-- `Paces::share_by_cut`: each turn is a turn of SA2 (`took`), since the lists hold the duty's share and need and the cut finds who is
-- chosen. The sum stays small: at most T + 2 for each duty.
use mathlib.Core.Path.{ap, ◌∙◌}
use native.Mathlib.Omega.{arith}
use Rattle.share_block.specs.Paced.{Pace}
use Rattle.share_block.proofs.Going.{opened, closed, count, going_none, ready_now, turn_taken, going_more, going_paced, going_lacked}
use Rattle.share_block.proofs.Going.{going_written}
use Rattle.share_block.proofs.Paces.share_by_cut.Goals as goal

pub loop-i-init : goal.loop-i-init
loop-i-init c =
    let p = opened c.self.view_is c.self.invariant in
    record { going = going_none _ _ _ _ _ p.long.0 p.long.1; rated = p.rated }

pub take_turn-turn-requires : goal.take_turn-turn-requires
take_turn-turn-requires c =
    let p = opened c.self.view_is c.self.invariant in
    let n = c.duty_count-i-end.ensures.value ∙ count c.self.view_is in
    ready_now p.shareable c.loop-i.invariant.rated p.needed c.loop-i.invariant.going (omega arith)

pub loop-i-preserved : goal.loop-i-preserved
loop-i-preserved c =
    let p = opened c.self.view_is c.self.invariant in
    let n = c.duty_count-i-end.ensures.value ∙ count c.self.view_is in
    let inv = c.loop-i.invariant in
    let turn = c.take_turn-turn.ensures in
    let ticks = c.ticks-ticks.ensures.value ∙ ap (λ (p : Pace). p.sharing.ticks) c.self.view_is in
    let chosen = rw ticks at c.is_chosen-chosen.ensures in
    let taken = turn_taken p.shareable inv.rated p.needed inv.going (omega arith) _ _ _ _ _ _ c.requires.cut_value chosen turn.units_value
    turn.whole_value.0 turn.part_value turn.lacking_value in
    record {
      going = going_more p.shareable inv.rated p.needed inv.going (omega arith) _ _ _ _ taken turn.whole_value.1 c.requires.room;
      rated = record { periods_are = inv.rated.periods_are; rates = inv.rated.rates; rests = inv.rated.rests };
    }

pub invariant_of-self : goal.invariant_of-self
invariant_of-self c =
    let p = opened c.self.view_is c.self.invariant in
    let n = c.duty_count-i-end.ensures.value ∙ count c.self.view_is in
    closed c.self.view_is (going_paced _ p.shareable c.loop-i.invariant.rated c.loop-i.invariant.going (omega arith))

pub returns : goal.returns
returns c =
    let p = opened c.self.view_is c.self.invariant in
    let n = c.duty_count-i-end.ensures.value ∙ count c.self.view_is in
    let inv = c.loop-i.invariant in
    record {
      next = rw (← c.self.view_is);
      lacking = going_lacked p.shareable inv.rated p.needed inv.going (omega arith);
      units_after = going_written p.shareable inv.rated p.needed inv.going (omega arith) c.requires.room;
    }

use Rattle.share_block.specs.Paced.{Rated}
use Rattle.share_block.proofs.Going.{Going}
use Rattle.share_block.proofs.Paces.share_by_cut.Given as goal

abbrev pub invariant-loop-i : goal.invariant-loop-i
invariant-loop-i l =
    record {
      going :
          Going l.fn.self.sharing l.fn.self.block l.initial.lists.whole l.initial.lists.part l.initial.units l.i l.total l.lacking
          l.lists.whole l.lists.part l.units;
      rated : Rated l.fn.self.sharing l.lists.periods l.lists.rate l.lists.rest;
    }

-- `build`: what tests 1 to 5 refuse is refused. Past them, by the greatest common divisor and the length that is meant, 24 or what is built
-- for that length.
use mathlib.Core.Path.{◌≡◌, sym, ap, ◌∙◌}
use Rattle.std.proofs.lemmas.Result.{err_from_is_err_and}
use lib.ListN.{length}
use Rattle.paper.specs.Words.{block_length_of}
use Rattle.paper.specs.Wanted.{Wanted, wanted, duty_set}
use Rattle.paper.proofs.Outcomes.{writes_same, writes_refused}
use Rattle.plan_laws.proofs.TakenWhen.{Taken, taken_told}
use Rattle.sa1_measure.specs.Layings.{Laid, laying}
use Rattle.builder.specs.BuildAt.{build_at}
use Rattle.builder.proofs.AfterTaken.{not_built, Lengths, meant_some, refusal_24, within_past, past_24}
use Rattle.builder.proofs.build.Goals as goal
use Rattle.builder.proofs.build.Goals.{After-length_meant-t}

pub returns-in_err-duties : goal.returns-in_err-duties
returns-in_err-duties c =
    let a = c.args in
    let p = err_from_is_err_and c.from_residual.result c.from_residual.ensures.1 in
    rw (p.1, p.2)
    (writes_refused _ _
    (not_built a.wish (wanted a.engines a.services.now a.periods.now) _ (length a.out.now) (sym c.in_err-duties.ensures)))

-- what is wanted
abbrev asked : After-length_meant-t → Wanted
asked c = wanted c.args.engines c.args.services.now c.args.periods.now

-- it is taken, and its duties are those that were handed back
takes : (c : After-length_meant-t) → Taken (asked c) × (c.in_ok-duties.duties ≡ duty_set (asked c))
takes c = taken_told (asked c) c.in_ok-duties.duties (sym c.in_ok-duties.ensures)

known : (c : After-length_meant-t) → Lengths c.args.wish (asked c) c.greatest-greatest.result c.length_meant-t.result
known c =
    record {
      takes = (takes c).0;
      greatest = c.greatest-greatest.ensures ∙ ap block_length_of (takes c).1;
      meant = c.length_meant-t.ensures;
    }

pub nonzero_rem-greatest : goal.nonzero_rem-greatest
nonzero_rem-greatest c = meant_some (known (goal.at.nonzero_rem-greatest c).After-length_meant-t)

pub returns-then-greatest-t-ne0 : goal.returns-then-greatest-t-ne0
returns-then-greatest-t-ne0 c =
    writes_refused _ _
    (refusal_24 (known (goal.at.returns-then-greatest-t-ne0 c).After-length_meant-t) (length c.args.out.now) c.if-greatest-t-ne0.true)

pub new-requires : goal.new-requires
new-requires c =
    let k = known (goal.at.new-requires c).After-length_meant-t in
    within_past k c.if-greatest-t-ne0.false

pub build_fitting-requires : goal.build_fitting-requires
build_fitting-requires c = rw c.new.ensures (takes (goal.at.build_fitting-requires c).After-length_meant-t).0.counts.engines.1

pub returns : goal.returns
returns c =
    let at-t = (goal.at.returns c).After-length_meant-t in
    let room = length c.args.out.now in
    let same = ap (λ (l : Laid). build_at l.ticks l.engines l.duties room)
    (sym (c.new.ensures ∙ ap (laying c.length_meant-t.result c.args.engines) (takes at-t).1)) in
    writes_same (past_24 (known at-t) room c.if-greatest-t-ne0.false ∙ same) c.build_fitting.ensures

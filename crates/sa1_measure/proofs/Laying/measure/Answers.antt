-- `measure`: the slices passed are whole; the runs so far, with those of the slices that are left from this place on, are all runs; the
-- units before this place, with what is left, are all units. The row is at most i, since a duty moves it by one at the most.
use Prim.Native.Nat.{◌≤◌, ◌<◌}
use mathlib.Core.Path.{◌≡◌, ap, ◌∙◌}
use mathlib.Core.Bool.{not}
use native.Mathlib.Omega.{arith}
use borrow.Author.Rules.{rules}
use borrow.Author.Tests.{eq-eqb, ne_eqb}
use lib.Dec.{eqb}
use lib.ListN.{length}
use Rattle.laws.proofs.Search.{seek_more, seek_hit, seek_miss}
use Rattle.paper.specs.declared.Refusal.TheVariants.{PartSlice}
use Rattle.paper.specs.Duties.{duty_at}
use Rattle.paper.specs.Words.{slice, whole}
use Rattle.duty_lists.proofs.Slices.{total_left, total_none}
use Rattle.sa1_runs.specs.Laying.{place_after, units_to}
use Rattle.sa1_runs.proofs.Laying.{units_after}
use Rattle.sa1_measure.proofs.LaidLeft.{count_left, count_none}
use Rattle.sa1_measure.proofs.Laying.measure.Goals as goal
use Rattle.sa1_measure.proofs.Laying.measure.Goals.{After-share_of-share}

-- what the rest of a share tells of its slice
told :
    (c : After-share_of-share)
    → whole c.args.self.now.ticks (duty_at c.args.self.now.duties c.loop-i.i) ≡ eqb c.share_of-share.result.rest 0
told c = rw (← c.duty.ensures.value, ← c.ticks-ticks.ensures.value) c.share_of-share.ensures.3

pub returns-then-share-gt0 : goal.returns-then-share-gt0
returns-then-share-gt0 c =
    let here : c.loop-i.i < length c.args.self.now.duties = omega (arith, c.loop-i-test.true, c.duty_count-i-end.ensures.value) in
    let broken = ap not
    (told (goal.at.returns-then-share-gt0 c).After-share_of-share ∙ ne_eqb c.share_of-share.result.rest 0 (search rules)) in
    let found = seek_hit c.loop-i.invariant.0 here broken in
    (omega (arith, found, here), ap PartSlice found)

pub loop-i-preserved : goal.loop-i-preserved
loop-i-preserved c =
    let loop = c.loop-i in
    let t = c.args.self.now.ticks in
    let ds = c.args.self.now.duties in
    let same = c.ticks-ticks.ensures.value in
    let h : loop.i < length ds = omega (arith, c.loop-i-test.true, c.duty_count-i-end.ensures.value) in
    let n = c.share_of-share.result.units in
    let laid : n ≡ slice t (duty_at ds loop.i) = rw (← same, ← c.duty.ensures.value) c.share_of-share.ensures.0 in
    let Whole-here =
    ap not (told (goal.at.loop-i-preserved c).After-share_of-share
    ∙ eq-eqb c.share_of-share.result.rest 0 (omega (arith, c.if-share-gt0.false))) in
    let next : c.after-place.result ≡ place_after t n loop.place = rw (c.new-slice.ensures, same) at c.after-place.ensures.value in
    let inside = rw (c.new-slice.ensures, same) at c.after-place.ensures.inside in
    let runs = rw (c.new-slice.ensures, same) at c.runs-runs.ensures in
    let moves = ap (units_to t) next ∙ units_after t n loop.place in (
      seek_more loop.invariant.0 h Whole-here,
      omega (arith, runs),
      inside.0,
      omega (arith, inside.1),
      omega (arith, count_left t n ds _ _ _ h laid next, runs.0),
      omega (arith, moves, total_left t ds loop.i h, laid),
    )

pub returns : goal.returns
returns c =
    let loop = c.loop-i in
    let t = c.args.self.now.ticks in
    let ds = c.args.self.now.duties in
    let all : length ds ≤ loop.i = omega (arith, c.loop-i-test.false, c.duty_count-i-end.ensures.value) in
    let within = loop.invariant.0.within in
    record {
      all_whole = omega (arith, seek_miss loop.invariant.0 all, all);
      counted = omega (arith, count_none t ds loop.i loop.place all);
      most_runs_lem = omega (arith, within);
      total = omega (arith, total_none t ds loop.i all);
      unit_below = loop.invariant.2;
      row_most = omega (arith, within);
    }

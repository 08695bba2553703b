-- `put_records`: each duty's record goes into the gap before the runs, and its runs behind the last ones.
use Prim.Native.Nat.{◌+◌, ◌*◌, ◌≤◌, ◌<◌}
use mathlib.Core.Path.{◌≡◌, refl}
use native.Mathlib.Omega.{arith}
use lib.ListN.{length}
use Rattle.laws.proofs.Writing.{length-lent}
use Rattle.paper.specs.Duties.{duty_at}
use Rattle.paper.specs.Words.{slice}
use Rattle.paper.specs.Limits.{small, run_length}
use Rattle.sa1_runs.specs.Laying.{place_after, runs_at}
use Rattle.sa1_table.proofs.Recording.{recording_none, runs_room}
use Rattle.sa1_table.proofs.Recording.{recording_more, recording_end, recording_length}
use Rattle.sa1_table.proofs.put_records.Goals as goal
use Rattle.sa1_table.proofs.put_records.Goals.{After-share_of}

pub loop-i-init : goal.loop-i-init
loop-i-init c =
    rw c.duty_count-count.ensures.value (recording_none _ _ _ c.requires c.ticks-ticks.ensures.layable.ticks_least)

-- there is a duty i, ..
here : (c : After-share_of) → c.loop-i.i < length c.args.laying.now.duties
here c = omega (arith, c.loop-i-test.true, c.duty_count-count.ensures.value)

-- .. the slice is its, ..
cut : (c : After-share_of) → c.share_of.result.units ≡ slice c.args.laying.now.ticks (duty_at c.args.laying.now.duties c.loop-i.i)
cut c = rw (← c.ticks-ticks.ensures.value, ← c.duty-x.ensures.value) c.share_of.ensures.0

-- .. and its runs have room
placed :
    (c : After-share_of)
    → c.loop-i.at + run_length small * runs_at c.args.laying.now.ticks c.share_of.result.units c.loop-i.place.unit ≤ length c.loop-i.out
placed c = runs_room c.loop-i.invariant (here c) c.share_of.result.units _ (cut c) refl

pub put_duty_runs-at-requires : goal.put_duty_runs-at-requires
put_duty_runs-at-requires c =
    rw (c.new-slice.ensures, c.ticks-ticks.ensures.value, length-lent)
    (omega (arith, placed (goal.at.put_duty_runs-at-requires c).After-share_of))

pub overflow_add-at : goal.overflow_add-at
overflow_add-at c =
    omega (
      arith,
      placed (goal.at.overflow_add-at c).After-share_of,
      rw (c.new-slice.ensures, c.ticks-ticks.ensures.value) at c.put_duty_runs-at.ensures.1,
    )

pub loop-i-preserved : goal.loop-i-preserved
loop-i-preserved c =
    let loop = c.loop-i in
    let at-slice = (goal.at.loop-i-preserved c).After-share_of in
    let cut-is = c.new-slice.ensures in
    let same = c.ticks-ticks.ensures.value in
    let wrote = rw (cut-is, same) at c.put_duty_runs-at.ensures in
    let next :
    c.after-place.result ≡ place_after c.args.laying.now.ticks c.share_of.result.units loop.place =
    rw (cut-is, same) at c.after-place.ensures.value in
    let inside = rw (cut-is, same) at c.after-place.ensures.inside in
    rw wrote.1
    (recording_more loop.invariant (here at-slice) c.share_of.result.units _ (cut at-slice) next _ _ _ c.duty-x.ensures.value
    c.put_duty.ensures wrote.0 (omega (arith, loop.invariant.long)) inside.0 inside.1)

pub returns : goal.returns
returns c =
    let all : length c.args.laying.now.duties ≤ c.loop-i.i = omega (arith, c.loop-i-test.false, c.duty_count-count.ensures.value) in
    (recording_end c.loop-i.invariant all, recording_length c.loop-i.invariant all)

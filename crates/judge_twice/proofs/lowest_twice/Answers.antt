-- `lowest_twice`: each run is looked at with its duty's earlier runs, and as long as none breaks the rule it is put among them
-- (`sorted_more`).
use Rattle.std.proofs.Common.{◌≤◌, length, arith, sym, ◌∙◌}
use Rattle.laws.proofs.Search.{seek_more, seek_hit, first_none}
use Rattle.laws.proofs.SortedLists.{sorted_more, recent_more}
use Rattle.paper.specs.Words.{Table}
use Rattle.paper.specs.Limits.{small}
use Rattle.paper.specs.Rules.{overlaps, lowest}
use Rattle.paper.specs.Statements.{Ranged}
use Rattle.table_laws.proofs.Forerunners.{found_apart}
use Rattle.table_laws.proofs.SortedRuns.{Rowed, distinct}
use Rattle.judge_twice.proofs.lowest_twice.Goals as goal

-- where 14 is met, what 16 finds
rowed : {t : Table} → Ranged small t → length t.runs ≤ lowest overlaps t.runs → Rowed t.runs
rowed {t} R h = record { apart = found_apart t.runs h; long = λ k l. (R.run_ranged_lem k l).some_units }

pub is_twice-requires : goal.is_twice-requires
is_twice-requires c = (
  c.runs-runs.ensures.ranged.ticks_most,
  rowed c.runs-runs.ensures.ranged c.requires,
  c.loop-k.invariant.search.clear,
  c.spot_of-spot.ensures,
)

pub returns-then-is_twice : goal.returns-then-is_twice
returns-then-is_twice c =
    seek_hit c.loop-k.invariant.search (rw c.runs-runs.ensures.told at c.loop-k-test.true)
    (sym c.is_twice.ensures ∙ c.if-is_twice.true)

-- run k does not break the rule: it is passed, and put into its list
pub loop-k-preserved : goal.loop-k-preserved
loop-k-preserved c =
    let ranged = c.runs-runs.ensures.ranged in
    let few = rw c.runs-runs.ensures.told at c.loop-k-test.true in
    let run = c.run-duty.ensures in
    let listed = c.loop-k.invariant.listed in
    let more = seek_more c.loop-k.invariant.search few (sym c.is_twice.ensures ∙ c.if-is_twice.false) in
    record {
      search = more;
      listed = record {
        recent = rw (c.insert.ensures.last, run.told) (recent_more listed.recent (rw run.told at run.ranged.duty_below));
        sorted =
            rw c.insert.ensures.pointers
            (sorted_more c.spot_of-spot.ensures (distinct (rowed ranged c.requires) more.clear more.within));
      };
    }

pub returns : goal.returns
returns c =
    let end = rw c.runs-runs.ensures.told at c.loop-k-test.false in
    rw c.runs-runs.ensures.told (sym (first_none _ _ (λ j l. c.loop-k.invariant.search.clear j (omega (arith, end)))))

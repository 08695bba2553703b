-- The rules of the runs in two halves, and what a pass over some rules says.
use Rattle.std.specs.Prelude.{⊤, Result, Ok, Err, length}
use Rattle.paper.specs.declared.Fault.{Fault}
use Rattle.paper.specs.Words.{Table}
use Rattle.paper.specs.Outcome.{Outcome, refused, answer, fault_number, fault_place}
use Rattle.paper.specs.Rules.{overlaps, joins, twice, lowest, bad_order, bad_sum, fault}

-- 13 to 15, which are said of rows
abbrev pub judge_rows : Table → Outcome Table
judge_rows t =
    fault 13 (bad_order t) (length t.runs)
    (fault 14 (lowest overlaps t.runs) (length t.runs) (fault 15 (lowest joins t.runs) (length t.runs) (answer t)))

-- 16 and 17, which are said of duties
abbrev pub judge_service : Table → Outcome Table
judge_service t = fault 16 (lowest twice t.runs) (length t.runs) (fault 17 (bad_sum t) (length t.duties) (answer t))

-- the rules hand on the table that they are asked of, or tell a fault
abbrev pub passed_as : Result ⊤ Fault → Table → Outcome Table
passed_as (Ok u) t = answer t
passed_as (Err f) t = refused (fault_number f) (fault_place f)

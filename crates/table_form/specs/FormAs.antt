-- What the bytes of a table come to by their form.
use Rattle.std.specs.Prelude.{Result, Ok, Err}
use Rattle.paper.specs.declared.Fault.{Fault}
use Rattle.paper.specs.declared.Refusal.TheVariants.{Table as BadTable}
use Rattle.paper.specs.Words.{Table}
use Rattle.paper.specs.Outcome.{Outcome, answer, refused_as}

-- the reader's answer: the table, or why there is none
abbrev pub form_as : Result Table Fault → Outcome Table
form_as (Ok t) = answer t
form_as (Err f) = refused_as (BadTable f)

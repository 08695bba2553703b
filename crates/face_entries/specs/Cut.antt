-- The state in the entries of a lent list: the block, then the rows, each cut to 32 bits from above.
use Rattle.std.specs.Prelude.{ℕ, ◌+◌, min, List, get_or}
use Rattle.laws.specs.Lists.{tab}
use Rattle.paper.specs.declared.State.{State}
use Rattle.paper.specs.Limits.{most_engines, no_row}
use Rattle.paper.specs.Words.{row}

abbrev pub cut_row : List ℕ → ℕ → ℕ
cut_row l e = min (get_or l (e + 1) 0) no_row

abbrev pub cut_state : List ℕ → State
cut_state l = record { block = get_or l 0 0; rows = tab most_engines (λ e. row (cut_row l e)) }

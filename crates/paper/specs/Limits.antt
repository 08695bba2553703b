-- Every range and every length, once: document 01's "Ranges", the kinds and lengths of a table's records, and what follows from them. No
-- other definition and no contract has one of these as a bare number; `src/limits.rt` has the same for code.
use Rattle.std.specs.Prelude.{ℕ, ◌+◌, ◌*◌, ◌-◌, ◌^◌}

-- ---- tables

-- the kinds, field lengths and ranges that a part's size decides
pub record Width : Type 0 where
  pub head_kind : ℕ
  pub run_kind : ℕ
  pub duty_field : ℕ
  pub most_engines : ℕ
  pub most_duties : ℕ
  pub most_runs : ℕ

-- "engines 1 to 32, duties 1 to 64, .. at most 128 runs in a table"; a duty's number has one byte
abbrev pub small : Width
small = record { head_kind = 1; run_kind = 3; duty_field = 1; most_engines = 32; most_duties = 64; most_runs = 128 }

-- the most of any width: engines (and rows), duties, runs
abbrev pub most_engines : ℕ
most_engines = small.most_engines

abbrev pub most_duties : ℕ
most_duties = small.most_duties

abbrev pub most_runs : ℕ
most_runs = small.most_runs

-- "period 1 to 1,000,000"
abbrev pub most_ticks : ℕ
most_ticks = 1_000_000

-- the other kinds: 2 for a duty, 4 for the end
abbrev pub duty_kind : ℕ
duty_kind = 2

abbrev pub end_kind : ℕ
end_kind = 4

-- the records' lengths: "one byte of kind, then a body whose length the kind fixes"
abbrev pub head_length : Width → ℕ
head_length w = 6 + w.duty_field

abbrev pub duty_length : ℕ
duty_length = 9

abbrev pub run_length : Width → ℕ
run_length w = 10 + w.duty_field

abbrev pub end_length : ℕ
end_length = 3

-- the length of a table with so many duties and runs, and of the longest
abbrev pub table_length : Width → ℕ → ℕ → ℕ
table_length w n k = head_length w + duty_length * n + run_length w * k + end_length

abbrev pub most_table : ℕ
most_table = table_length small most_duties most_runs

-- ---- blocks, and what stands in a machine's words

-- "blocks for a count at most 1,000,000,000,000"
abbrev pub most_blocks : ℕ
most_blocks = 1_000_000_000_000

-- "more than 4,096 blocks up to the common multiple"
abbrev pub most_share_blocks : ℕ
most_share_blocks = 4_096

-- "block 2^64 - 1": the last there is
abbrev pub last_block : ℕ
last_block = 2 ^ 64 - 1

-- no place is above this: a place is a duty, a run, a line, an offset, or a number of bytes or entries
abbrev pub most_place : ℕ
most_place = 4_294_967_296

-- the largest number of 32 bits, which no row has
abbrev pub no_row : ℕ
no_row = 2 ^ 32 - 1

-- ---- the program's text

-- "or `-`, which means 4"
abbrev pub default_engines : ℕ
default_engines = 4

-- "at most 4,096 bytes"
abbrev pub most_input : ℕ
most_input = 4_096

-- "1 to 9 digits"
abbrev pub most_digits : ℕ
most_digits = 9

-- as many digits as a number of 64 bits may have
abbrev pub word_digits : ℕ
word_digits = 20

-- the bytes that suffice for each kind of line, for all lines of what stands in a table and of what follows from it, and for a plan's text;
-- nobody has to believe them: that they suffice is proved
abbrev pub plan_line_room : ℕ
plan_line_room = 29

abbrev pub duty_line_room : ℕ
duty_line_room = 29

abbrev pub run_line_room : ℕ
run_line_room = 36

abbrev pub chain_line_room : ℕ
chain_line_room = 12

abbrev pub loads_line_room : ℕ
loads_line_room = 22

abbrev pub refused_line_room : ℕ
refused_line_room = 50

abbrev pub duty_lines_room : ℕ
duty_lines_room = duty_line_room * most_duties

abbrev pub run_lines_room : ℕ
run_lines_room = run_line_room * most_runs

abbrev pub table_lines_room : ℕ
table_lines_room = plan_line_room + duty_lines_room + run_lines_room

abbrev pub rotation_lines_room : ℕ
rotation_lines_room = chain_line_room * most_engines + loads_line_room

abbrev pub text_room : ℕ
text_room = 8_192

-- ---- the outside face: the entries of lent answers and of a dispatcher's state

abbrev pub word_room : ℕ
word_room = 1

abbrev pub reading_room : ℕ
reading_room = 4

abbrev pub reply_room : ℕ
reply_room = 2

abbrev pub share_reading_room : ℕ
share_reading_room = 3

-- "a block number and 32 row numbers"
abbrev pub state_room : ℕ
state_room = most_engines + 1

-- The kinds of records: "Each record is one byte of kind, then a body whose length the kind fixes."
use Rattle.std.specs.Prelude.{ℕ}
use Rattle.paper.specs.Limits.{small, duty_kind, end_kind, head_length, duty_length, run_length, end_length}
use Rattle.record_read.specs.declared.Kind.{Kind}
use Rattle.record_read.specs.declared.Kind.TheVariants.{Head, Duty, Run, End}

-- the kind's byte
abbrev pub kind_byte : Kind → ℕ
kind_byte Head = small.head_kind
kind_byte Duty = duty_kind
kind_byte Run = small.run_kind
kind_byte End = end_kind

-- the length of a record with its kind
abbrev pub kind_length : Kind → ℕ
kind_length Head = head_length small
kind_length Duty = duty_length
kind_length Run = run_length small
kind_length End = end_length

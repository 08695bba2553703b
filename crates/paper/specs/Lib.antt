-- Document 01 in its order: ranges and lengths, duties and engines, the words of a plan, SA1, the rotation; what a schedule is, when one
-- meets duties (document 02's request 7), and the walk; outcomes and how answers read, the table's bytes; what is wanted and refusals 1 to
-- 5, the builder, the rules of the judge and the same as plain statements, what is asked of a table; the program's text. Document 02's
-- request 3: SA2, and its plans of shares. The outside face; and the cases: document 01's, request 6's, request 3's.
pub mod Limits
pub mod Duties
pub mod Words
pub mod Sa1
pub mod Rotation
pub mod Schedule
pub mod Capacity
pub mod Walk
pub mod Outcome
pub mod Bytes
pub mod Wanted
pub mod Builder
pub mod Rules
pub mod Statements
pub mod Answers
pub mod Text
pub mod Sa2
pub mod Shares
pub mod Face
pub mod Cases
pub mod LengthCases
pub mod ShareCases

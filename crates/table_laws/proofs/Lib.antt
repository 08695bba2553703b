-- Tables: the rules as plain statements and as tests, 13 to 15 by the forerunner, 16 by sorted lists, what is accepted, a slice that is
-- whole; and a table's bytes, their fields, what reading them comes to, what is written, what is read, and which bytes are accepted.
pub mod Rules
pub mod Forerunners
pub mod SortedRuns
pub mod Accepted
pub mod Whole
pub mod Bytes
pub mod Fields
pub mod Forms
pub mod Written
pub mod Read
pub mod AcceptedBytes

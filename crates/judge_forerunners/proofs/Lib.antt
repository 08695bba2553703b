-- A test of a run and the one before it.
pub mod Beside

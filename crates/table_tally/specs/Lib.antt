pub mod Tally
pub mod Ready

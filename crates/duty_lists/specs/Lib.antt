pub mod Listed
pub mod Sliceable

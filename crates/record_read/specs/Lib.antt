pub mod Formed
pub mod Kinds

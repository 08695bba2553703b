pub mod Edged
pub mod Tallied
pub mod Linked

pub mod Short
pub mod Cut

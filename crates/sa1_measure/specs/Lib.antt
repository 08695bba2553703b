pub mod Layings
pub mod Layouts

pub mod Slices
pub mod AfterTests
pub mod Testing

pub mod Building
pub mod Printed

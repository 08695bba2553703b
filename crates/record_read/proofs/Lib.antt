pub mod Table
pub mod Field

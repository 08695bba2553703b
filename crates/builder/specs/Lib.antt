pub mod BuildAt

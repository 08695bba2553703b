pub mod FromFn
mod Opened

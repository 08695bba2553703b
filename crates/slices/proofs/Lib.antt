pub mod Shares
pub mod Steps

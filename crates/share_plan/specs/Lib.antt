pub mod AfterCount

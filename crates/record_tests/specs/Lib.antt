pub mod GoodHead

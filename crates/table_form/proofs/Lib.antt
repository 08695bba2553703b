pub mod GoodForm

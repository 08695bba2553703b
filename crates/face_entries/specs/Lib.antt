pub mod InWord
pub mod Numbers
pub mod Cut

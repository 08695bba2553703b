pub mod Telling
pub mod Narrowed
pub mod Cut
pub mod Handing

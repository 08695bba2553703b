pub mod AfterTaken
pub mod Sized

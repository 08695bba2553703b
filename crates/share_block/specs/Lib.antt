pub mod Paced

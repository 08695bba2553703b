pub mod TableLines

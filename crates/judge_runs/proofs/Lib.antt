-- How the rules' two halves make up the whole.
pub mod Halves

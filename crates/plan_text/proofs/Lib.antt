pub mod Fitting
mod Rotating

pub mod Fitting
pub mod Laying

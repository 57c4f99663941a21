pub mod Plain
pub mod Parts
pub mod Runs

pub mod Cooling
pub mod Stages
pub mod Runs

pub mod Inspecting
pub mod Stages
pub mod Runs

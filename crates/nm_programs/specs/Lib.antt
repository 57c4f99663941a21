pub mod Cpus
pub mod Plain
pub mod Runs

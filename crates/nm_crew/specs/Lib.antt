pub mod Simulated
pub mod Crewed

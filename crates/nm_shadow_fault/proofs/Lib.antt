pub mod Locked
pub mod Granting
pub mod Stepping

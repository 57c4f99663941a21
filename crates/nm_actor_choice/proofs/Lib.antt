pub mod Turns
pub mod Notes
pub mod Beginnings

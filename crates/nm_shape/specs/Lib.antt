pub mod Keyed
pub mod Shape

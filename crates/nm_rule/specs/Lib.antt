pub mod Knows
pub mod Shows
pub mod Steps
pub mod Stands

pub mod Reaching
pub mod Begun

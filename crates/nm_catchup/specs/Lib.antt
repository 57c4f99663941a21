pub mod CatchUp
pub mod Catching

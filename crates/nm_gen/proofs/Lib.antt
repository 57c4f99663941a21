pub mod Draws
pub mod Valid

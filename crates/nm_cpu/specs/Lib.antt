pub mod Programs
pub mod Lines
pub mod Parts
pub mod Agreeing

pub mod Parts
pub mod Settling

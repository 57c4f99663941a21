pub mod Seeing
pub mod Looking
pub mod Softening
pub mod Parts

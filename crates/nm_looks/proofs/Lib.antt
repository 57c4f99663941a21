pub mod Shown
pub mod Looking
pub mod Leaving
pub mod Softening

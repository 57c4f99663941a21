pub mod Off
pub mod Stepping
pub mod Fitting
pub mod Leaving

pub mod Lists
pub mod Fitting
pub mod Resting
pub mod Giving
pub mod Visiting
pub mod Agreeing
pub mod Starting

pub mod Nesting
pub mod Following
pub mod Fitting
pub mod Seating
pub mod Surveyed
pub mod Running
pub mod Acting
pub mod Begins

pub mod Lookups
pub mod Ascending
pub mod Placed
pub mod Puts

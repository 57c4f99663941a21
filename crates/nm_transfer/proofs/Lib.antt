pub mod Written
pub mod Lists
pub mod Held
pub mod Taking
pub mod Filling
pub mod Mapping
pub mod Running

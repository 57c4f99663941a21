pub mod Turning
pub mod Accessing
pub mod Ending

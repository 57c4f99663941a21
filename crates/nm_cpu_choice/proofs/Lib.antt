pub mod Turning
pub mod Weaving
pub mod Accessing
pub mod Making

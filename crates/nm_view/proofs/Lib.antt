pub mod Aliases
mod Closing
pub mod Items
pub mod Known
pub mod Places
pub mod Finds

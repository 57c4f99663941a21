pub mod Alone
pub mod Nested
pub mod Following
pub mod Running

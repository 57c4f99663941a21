pub mod Tasking
pub mod Waiting

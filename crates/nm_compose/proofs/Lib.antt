pub mod Acting
pub mod Choosing
pub mod Running
pub mod Staging

pub mod Ending
pub mod Acting
pub mod Migrators
pub mod Keeping

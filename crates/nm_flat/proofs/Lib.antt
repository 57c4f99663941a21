pub mod Flat
pub mod Legal
pub mod Places
mod Worked

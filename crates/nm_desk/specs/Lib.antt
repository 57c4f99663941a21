pub mod Desk
pub mod Woven

pub mod Locking
pub mod ShadowFault
pub mod Granting

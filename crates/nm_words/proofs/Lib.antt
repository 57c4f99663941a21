pub mod Flat
pub mod Groups
pub mod Places
pub mod Standing

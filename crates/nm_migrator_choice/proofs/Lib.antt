pub mod Works
pub mod Migrating

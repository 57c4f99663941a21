pub mod Migrating
pub mod Stages
pub mod Parts

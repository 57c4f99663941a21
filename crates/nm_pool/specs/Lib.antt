pub mod Pool
pub mod Given
pub mod Stages

pub mod Words
pub mod Transferring
pub mod Moving
pub mod Stages
pub mod Runs

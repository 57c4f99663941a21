pub mod Placing
pub mod Worn
pub mod Preparing
pub mod Ready
pub mod Stages
pub mod Runs

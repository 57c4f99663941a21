pub mod Causes
pub mod Drawn
pub mod EndWords
pub mod Kept
pub mod Named
pub mod Roles
pub mod Runs
pub mod State

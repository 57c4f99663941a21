pub mod Ending
pub mod Ops
pub mod Frames
pub mod Runs
pub mod Moving
pub mod Steps
pub mod Single

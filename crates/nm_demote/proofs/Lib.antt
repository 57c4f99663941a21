pub mod Ending
pub mod Runs
pub mod Steps
pub mod Moving
pub mod DemoteSteps

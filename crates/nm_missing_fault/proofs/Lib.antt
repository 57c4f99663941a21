pub mod Searched
pub mod SearchSteps
pub mod Views
pub mod Written
pub mod Runs
pub mod Steps

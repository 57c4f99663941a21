pub mod Actions
pub mod Ends

pub mod Searching
pub mod Found
pub mod SearchStages
pub mod SearchTasks
pub mod MissingFault
pub mod Pieces
pub mod Stages

pub mod Parts
pub mod Fronts
pub mod AfterRuns
pub mod Moved
pub mod Shared

pub mod Lasts
pub mod Pages
pub mod Ending
pub mod Views
pub mod Sweeping
pub mod Tasks
pub mod Forgetting

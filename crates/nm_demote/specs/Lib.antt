pub mod Selecting
pub mod Selections
pub mod Stages
pub mod SelectTasks
pub mod Demotions
pub mod Leaving
pub mod Pieces
pub mod Places

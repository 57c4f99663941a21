pub mod Choosing
pub mod Chosen
pub mod Stages
pub mod Moves
pub mod Leaving
pub mod Pieces
pub mod Places
pub mod ChooseRuns

pub mod AllTurns
pub mod Boarding
pub mod LanesLeft
pub mod ThreadRunMade

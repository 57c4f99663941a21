pub mod Actors
pub mod Ends
pub mod OneSim
pub mod Routines

pub mod TurnLists
pub mod Driving

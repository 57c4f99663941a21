pub mod Ends
pub mod Simulating
pub mod Tallies
pub mod Crewing
pub mod Accesses

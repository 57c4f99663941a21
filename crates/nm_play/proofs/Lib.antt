pub mod Members
pub mod Own
pub mod Lanes
pub mod Making
pub mod Playing
pub mod Starting
pub mod Keeping

pub mod Kinds
pub mod Works
pub mod Ends
pub mod Planned

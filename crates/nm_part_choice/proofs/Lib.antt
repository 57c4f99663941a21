pub mod Told
pub mod Leaves
pub mod Moves
pub mod Keeping
pub mod Faults

pub mod Leaves
pub mod Moves
pub mod Keeping
pub mod Faults
pub mod Back
pub mod BatchBack
pub mod Made
pub mod Asking

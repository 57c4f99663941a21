pub mod LaneAnswers
pub mod Stepping
pub mod Kept
pub mod Order

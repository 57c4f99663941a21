pub mod Works
pub mod Ends
pub mod Reclaiming
pub mod Stages
pub mod Knowing
pub mod Parts

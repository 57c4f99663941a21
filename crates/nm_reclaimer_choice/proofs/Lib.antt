pub mod Works
pub mod Reclaiming

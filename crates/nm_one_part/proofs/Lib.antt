pub mod Loads
pub mod Followed
pub mod CpuParts
pub mod RoutineParts

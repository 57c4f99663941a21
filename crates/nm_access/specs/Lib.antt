pub mod Turning
pub mod Faults
pub mod Accesses
pub mod Accessing
pub mod Moving

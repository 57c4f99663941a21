pub mod Turning
pub mod Accessing
pub mod Lines
pub mod Beginning
pub mod Awaiting
pub mod Counting

pub mod Shootdown
pub mod Flushed
pub mod Asking

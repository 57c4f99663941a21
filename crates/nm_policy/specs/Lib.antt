pub mod Hand
pub mod Hotness
pub mod Watermarks

pub mod Edits
pub mod Copied
pub mod Zeroed

pub mod Beginning
pub mod Choosing
pub mod Endings
pub mod Listing
pub mod Resting
pub mod Counting

pub mod Ending
pub mod Faced
pub mod Flats
pub mod Laid
pub mod Sorts

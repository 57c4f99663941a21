pub mod Plain
pub mod Ends
pub mod Texts
pub mod Summary
pub mod Follows
pub mod Filters

pub mod Countable
pub mod Noting

pub mod Kinds
pub mod Own
pub mod Spent
pub mod Tally

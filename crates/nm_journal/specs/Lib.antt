pub mod Answers
pub mod Parting

pub mod Diverging
pub mod Answers
pub mod Patterns
pub mod Acts

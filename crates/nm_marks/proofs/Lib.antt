pub mod Contents
pub mod Patterns

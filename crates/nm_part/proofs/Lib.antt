pub mod OwnLemmas
pub mod Inside
pub mod Patterns

pub mod Levels
pub mod Walks
pub mod Splits
pub mod Forms

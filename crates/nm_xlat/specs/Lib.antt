pub mod Translations
pub mod Entries
pub mod FullyAssociative
pub mod Places

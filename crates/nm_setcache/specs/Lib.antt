pub mod SetAssociative
pub mod Sets

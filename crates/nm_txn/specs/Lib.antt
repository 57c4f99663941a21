pub mod Transactions
pub mod Batches
pub mod Leaving
pub mod Pieces
pub mod Stages
pub mod Tasks

pub mod Exchanges
pub mod Flat
pub mod Names
pub mod Ranged
pub mod Words

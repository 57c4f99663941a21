pub mod Quotients
pub mod Law
pub mod Total

pub mod Numbers
pub mod Cuts
pub mod Fields
pub mod Kinds

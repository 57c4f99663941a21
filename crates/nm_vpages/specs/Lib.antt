pub mod Bits
pub mod VPages

pub mod AtDesk
pub mod Weaving

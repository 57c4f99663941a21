pub mod Ports
pub mod Histories
pub mod Passes
pub mod Rules

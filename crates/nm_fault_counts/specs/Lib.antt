pub mod FaultTally
pub mod Counted

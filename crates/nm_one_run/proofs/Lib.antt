pub mod Answering
pub mod OneRun
pub mod Picking

pub mod Joined
pub mod EachRun
pub mod Longer

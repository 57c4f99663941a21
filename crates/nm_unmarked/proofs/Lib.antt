pub mod Owns
pub mod Steps
pub mod Marked
pub mod EachRun

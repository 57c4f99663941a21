pub mod Tests
pub mod OneRole
pub mod Holding
pub mod Following

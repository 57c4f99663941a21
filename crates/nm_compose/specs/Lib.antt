pub mod Acts
pub mod Choices
pub mod Plans
pub mod Stages
pub mod Composites

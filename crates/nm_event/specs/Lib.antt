pub mod After
pub mod Changes
pub mod Fitting
pub mod Room
pub mod Ranged

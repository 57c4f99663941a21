pub mod Lanes
pub mod Turns
pub mod Actors
pub mod Chairs
pub mod Boards
pub mod Drives
pub mod Alone

pub mod Played
pub mod Lanes
pub mod Stalls
pub mod Picks
pub mod Scheduled
pub mod Standing

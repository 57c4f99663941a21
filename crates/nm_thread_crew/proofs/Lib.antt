pub mod Chairs
pub mod Seats
pub mod Lanes
pub mod Finishing
pub mod Lasting
pub mod Crewing

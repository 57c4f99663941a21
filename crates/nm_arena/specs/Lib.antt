pub mod Faces
pub mod Layouts
pub mod Mirrors
pub mod Seats
pub mod Ends
pub mod Standing
pub mod Views

mod Done
mod Fits
mod Frames
mod Groups
pub mod Keys
pub mod Laws
mod Ops
mod Room
pub mod Shaped
mod ShapedOps
mod Still
mod Told

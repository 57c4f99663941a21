pub mod Names
pub mod LaneFaces
pub mod ChairFaces

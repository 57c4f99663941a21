pub mod BoardFaces
pub mod LaneHistories

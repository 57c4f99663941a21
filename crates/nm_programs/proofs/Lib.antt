pub mod Beginning
pub mod Playing
pub mod Running

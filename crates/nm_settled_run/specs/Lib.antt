pub mod AllEnded

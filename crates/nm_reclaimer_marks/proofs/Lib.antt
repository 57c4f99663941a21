pub mod Reclaiming

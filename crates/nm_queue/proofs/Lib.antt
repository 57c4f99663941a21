pub mod Fifo
pub mod Numbers
pub mod Keeping
pub mod Joining
pub mod Alone
pub mod Counts

pub mod Snoc
pub mod Flushes
pub mod Actives
pub mod Counting
pub mod Turns
pub mod Items
pub mod Cooperating
pub mod Noting

pub mod Deterministic

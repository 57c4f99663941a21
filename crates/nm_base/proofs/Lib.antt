pub mod Chains
pub mod Pages
pub mod ShadowWords
pub mod TableWords
pub mod Tiers
pub mod Words

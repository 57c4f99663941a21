pub mod Lists
pub mod Opening
pub mod Operations
pub mod Views

pub mod References
pub mod Records
pub mod Traces
pub mod Imports
pub mod Drafts
pub mod Replies
pub mod Laws

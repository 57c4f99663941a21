pub mod Adapters
pub mod Calls
pub mod Count
pub mod Sink
pub mod SinkState
pub mod Source
pub mod SourceState
pub mod Whole

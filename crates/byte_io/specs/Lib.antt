pub mod Memory
pub mod ReadAll
pub mod Seen
pub mod Sink
pub mod Source

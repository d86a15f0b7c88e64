pub mod Cached
pub mod Truth

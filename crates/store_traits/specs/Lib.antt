pub mod Decoded
pub mod Faults

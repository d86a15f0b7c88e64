-- The laws of the codec, with their proofs: a law of a trait cites nothing else of its own crate than what
-- stands here.
pub mod Entries
pub mod Fields
pub mod OneReading
pub mod Places
pub mod Said
pub mod Values
pub mod Written

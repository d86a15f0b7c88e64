-- The transcript of a run tells the truth.
pub mod AskedInOrder
pub mod EachOnce
pub mod GoodRun
pub mod Rules
pub mod RunsAreGood
pub mod Told
pub mod Underway

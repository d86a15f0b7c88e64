pub mod Command
pub mod Line
pub mod Matches
pub mod Words

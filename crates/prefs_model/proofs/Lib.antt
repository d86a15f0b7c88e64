pub mod EntryLemmas
pub mod Keys
mod Latest
pub mod Maps
pub mod Rising
mod Search
pub mod Sets
pub mod Texts

pub mod AsksOne
pub mod DashLemmas
pub mod LineLemmas
pub mod PlainWordLemmas
pub mod WalkLemmas

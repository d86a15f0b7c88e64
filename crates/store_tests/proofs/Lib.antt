pub mod AloneLemmas
pub mod GoingLemmas
pub mod UpdateLemmas

-- Lemmas on lists.
pub mod JoinedLemmas
pub mod OptionLemmas
pub mod SetLemmas
pub mod SetViews
pub mod StandLemmas
pub mod TestLemmas

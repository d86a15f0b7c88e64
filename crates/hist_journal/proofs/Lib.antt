pub mod ClearingLemmas
pub mod FoldLemmas
pub mod NodeLemmas
pub mod QuietLemmas

pub mod PlanLemmas
pub mod OrderLemmas
pub mod SearchLemmas
pub mod MainsLemmas
pub mod StopLemmas
pub mod FolderLemmas
pub mod CallLemmas

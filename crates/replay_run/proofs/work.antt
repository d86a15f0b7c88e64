-- Each step that does not wait leaves less to do.
pub mod DeathsLeft
pub mod RunLemmas
pub mod StepsFall
pub mod TurnsLeft
pub mod WorkLemmas

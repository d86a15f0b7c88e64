-- Each script that keeps its rules has a run.
pub mod ChainExists
pub mod RunExists
pub mod ServedSteps
pub mod StepExists
pub mod TurnExists

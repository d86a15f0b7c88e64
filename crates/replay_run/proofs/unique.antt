mod OneStep
mod OneRun
pub mod OneTranscript

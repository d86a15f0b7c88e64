-- A turn keeps the history lawful, and main what the history comes to.
pub mod FaultsTold
pub mod MainKept
pub mod PlansKept
pub mod PlayedKept
pub mod RowFits
pub mod RunKept

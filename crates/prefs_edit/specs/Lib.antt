pub mod After
pub mod Edit
pub mod Kinds
pub mod Laws
pub mod Same
pub mod Step
pub mod Stop
pub mod Weight

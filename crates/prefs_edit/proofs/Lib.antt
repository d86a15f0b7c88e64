mod Fits
mod Holds
mod LeftAlone
pub mod Maps
pub mod Same
mod Turns

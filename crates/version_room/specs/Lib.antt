pub mod Closing
pub mod Known
pub mod Lawful
pub mod Rule
pub mod Seats
pub mod Steps
pub mod Turns
pub mod Views

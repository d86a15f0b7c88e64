pub mod exists
pub mod keeping
pub mod kept
pub mod lists
pub mod session
pub mod truth
pub mod unique
pub mod work

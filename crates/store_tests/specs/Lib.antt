pub mod Alone
pub mod SingleUpdate

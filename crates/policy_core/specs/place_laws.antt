pub mod Parts
pub mod Places
pub mod Entries
pub mod Policies

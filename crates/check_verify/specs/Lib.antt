pub mod Crates
pub mod Laws
pub mod Reasons
pub mod Recorded
pub mod Right
pub mod Terms
pub mod Verified

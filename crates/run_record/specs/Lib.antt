pub mod Judged
pub mod Recorded
pub mod Steps
pub mod Verified
pub mod Yes

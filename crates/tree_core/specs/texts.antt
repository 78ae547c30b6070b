pub mod Cause
pub mod Heard
pub mod Looked
pub mod Search

pub mod Joined
pub mod Kept
pub mod Scanned
pub mod Taken

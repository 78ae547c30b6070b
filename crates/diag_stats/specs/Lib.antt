pub mod Checks
pub mod Counts
pub mod ExitCode
pub mod Human
pub mod Json
pub mod Summary

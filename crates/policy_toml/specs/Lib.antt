pub mod HelperState
pub mod Readings
pub mod rows

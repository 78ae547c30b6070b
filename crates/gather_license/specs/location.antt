pub mod Calls
pub mod Location

pub mod Chosen
pub mod Found
pub mod Given
pub mod Heard

pub mod Command
pub mod Given
pub mod Listed
pub mod Listing

pub mod Listed
pub mod Listing
pub mod Written
pub mod Grouped
pub mod Marks

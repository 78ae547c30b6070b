pub mod Code
pub mod Indexes
pub mod Laws
pub mod Policy
pub mod Rows
pub mod Satisfied
pub mod Version
pub mod View

pub mod Flags
pub mod Laws
pub mod Rows
pub mod Unused

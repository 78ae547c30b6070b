pub mod Entry
pub mod Run
pub mod Told

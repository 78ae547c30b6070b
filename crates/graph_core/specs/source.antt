pub mod Git
pub mod Matching
pub mod Reading
pub mod Source

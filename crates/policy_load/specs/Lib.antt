pub mod Answer
pub mod Heard
pub mod Load

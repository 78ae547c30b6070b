mod Examples
pub mod Steps
pub mod Numbers
pub mod Hits
pub mod Lines
pub mod Files
pub mod Loops

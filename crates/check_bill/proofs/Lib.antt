mod Examples
pub mod Fields
pub mod Files
pub mod Lines
pub mod Loops
pub mod Packages
pub mod Same
pub mod StepLemmas

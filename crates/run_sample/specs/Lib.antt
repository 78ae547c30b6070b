pub mod Metadata
pub mod Files
pub mod Request
pub mod Lines
pub mod Sample
pub mod Shallow
pub mod Steady

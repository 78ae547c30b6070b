pub mod Graph
pub mod Krate
pub mod Metadata
pub mod source
pub mod selection

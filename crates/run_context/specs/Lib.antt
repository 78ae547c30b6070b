pub mod Asked
pub mod Paths

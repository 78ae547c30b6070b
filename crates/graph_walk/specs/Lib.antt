pub mod Shortest
pub mod Search
pub mod Unchecked

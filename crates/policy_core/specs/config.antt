pub mod Config
pub mod OpenTable
pub mod Places
pub mod Root

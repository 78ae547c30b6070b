pub mod Config
pub mod Text

pub mod Manifest
pub mod Slashes
pub mod Pieces
pub mod SpanSearch
pub mod Synthetic

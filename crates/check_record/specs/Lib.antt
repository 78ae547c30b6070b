pub mod Decoded
pub mod Items
pub mod Laws
pub mod Reading
pub mod Spelling

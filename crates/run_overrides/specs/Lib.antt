pub mod Items
pub mod Levels
pub mod Overrides
pub mod Put
pub mod Twice

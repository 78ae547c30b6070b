pub mod Goings
pub mod Levels
pub mod LinesRead
pub mod Stacks
pub mod Turns

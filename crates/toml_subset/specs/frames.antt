pub mod Between
pub mod Frames
pub mod Levels
pub mod LinesRead
pub mod Scalars

pub mod Noticed
pub mod Own
pub mod Pieces
pub mod Steps

pub mod Licensees
pub mod TwoKeys
mod NoClarify

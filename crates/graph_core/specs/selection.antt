pub mod Choice
pub mod ExcludeOrder
pub mod Roots
pub mod Walks
pub mod Listed
pub mod Places

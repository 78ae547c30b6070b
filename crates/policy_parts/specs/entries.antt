pub mod Clarifications
pub mod Exceptions
pub mod Laws
pub mod Licensees
pub mod WithSpec

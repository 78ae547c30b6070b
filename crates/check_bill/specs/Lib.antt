pub mod Answers
pub mod Bills
pub mod Laws
pub mod Lines
pub mod Reading

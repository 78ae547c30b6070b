pub mod Answers
pub mod Entries
pub mod Evaluation
pub mod Laws
pub mod Private

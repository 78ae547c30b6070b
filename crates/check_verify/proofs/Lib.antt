pub mod Choices
pub mod EntryLemmas
mod Examples
pub mod Kept
pub mod LawLemmas
pub mod Places
pub mod Records
pub mod RightLemmas
pub mod Rising
pub mod Walk

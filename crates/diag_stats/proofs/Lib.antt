pub mod CheckLemmas
mod Examples
pub mod WrittenLemmas

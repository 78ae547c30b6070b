mod Examples
pub mod ToldLemmas

mod Examples
pub mod IndexLemmas
pub mod MatchLemmas
pub mod SameLemmas

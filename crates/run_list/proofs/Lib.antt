pub mod CommandLemmas
pub mod ListedLemmas
pub mod ListingLemmas
pub mod RiseLemmas

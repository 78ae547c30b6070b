pub mod Examples
pub mod MapLemmas
pub mod PlaceLemmas

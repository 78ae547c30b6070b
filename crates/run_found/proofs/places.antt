pub mod GrownLemmas
pub mod PlaceLemmas

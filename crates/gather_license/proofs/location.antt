pub mod CallLemmas
pub mod HeardLemmas
pub mod PlaceLemmas

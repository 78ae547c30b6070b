pub mod LabelLemmas
pub mod PlaceLemmas
pub mod PointLemmas

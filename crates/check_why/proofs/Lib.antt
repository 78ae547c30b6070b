mod DistinctLemmas
mod Examples
pub mod InsideLemmas
mod LawLemmas
pub mod MadeLemmas
mod PlaceLemmas
mod UnmetLemmas

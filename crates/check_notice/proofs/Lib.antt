pub mod FindLemmas
pub mod LawLemmas
pub mod LineLemmas
pub mod NoticeLemmas
pub mod NumberLemmas
pub mod PlaceLemmas
pub mod StepLemmas
pub mod TermLemmas

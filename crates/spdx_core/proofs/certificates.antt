pub mod AloneLemmas
pub mod BlockLemmas
pub mod CertificateLemmas
pub mod ChoiceLemmas
pub mod LawLemmas
pub mod LeastLemmas
pub mod MarkLemmas
pub mod WalkLemmas

pub mod BorderLemmas
pub mod PlaceLemmas
pub mod SlashLemmas
pub mod SpanLemmas

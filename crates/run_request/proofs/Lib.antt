pub mod NumberLemmas
pub mod RowLemmas
pub mod ReadLemmas
pub mod SubcommandLemmas
pub mod CommandLemmas
pub mod NamedLemmas
pub mod PieceLemmas
pub mod LawLemmas

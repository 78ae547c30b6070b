pub mod Keys
pub mod RowLemmas

pub mod BillLemmas
pub mod PackageLemmas

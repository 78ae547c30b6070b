pub mod CatalogLemmas
pub mod CutLemmas
mod Examples
pub mod FolderLemmas
pub mod FormLemmas
pub mod IndexLemmas
pub mod ListsLemmas
pub mod NumberLemmas
pub mod OrderLemmas
pub mod ReadLemmas
pub mod StoreLemmas
pub mod WordLemmas

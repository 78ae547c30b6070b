pub mod CallLemmas
mod Examples
pub mod FileKeyLemmas
pub mod FoundLemmas
pub mod PackLemmas
pub mod PathLemmas

pub mod KeyLemmas
pub mod MapLemmas
pub mod NormalLemmas
pub mod ParentLemmas
pub mod PathLemmas
pub mod SearchLemmas

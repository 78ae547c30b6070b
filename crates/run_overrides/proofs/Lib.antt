mod Examples
pub mod ItemLemmas
pub mod LevelLemmas
pub mod PutLemmas

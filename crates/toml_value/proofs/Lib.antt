mod LevelLemmas
mod ReaderLemmas
mod RemovalLemmas
pub mod FinishLemmas
pub mod Paths
pub mod PutLemmas
pub mod TreeLemmas
pub mod TurnLemmas
pub mod ValueViews

pub mod BlockLemmas
pub mod CodeLemmas
pub mod FeedLemmas
pub mod FileLemmas
pub mod ListLemmas
pub mod OrderLemmas
pub mod PositionLemmas
pub mod ScanLemmas

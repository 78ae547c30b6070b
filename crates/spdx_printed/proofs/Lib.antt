mod Examples
pub mod PieceLemmas
pub mod PrintedItems
pub mod ReadBack
